-- Every definition by name, so that a case computes where a declaration says `unfolding computing`.
use Rattle.rules.specs.Lists
use Rattle.rules.specs.Columns
use Rattle.rules.specs.TableRules
use Rattle.rules.specs.Refusals
use Rattle.rules.specs.Heap
use Rattle.rules.specs.Graph
use Rattle.rules.specs.Search
use Rattle.rules.specs.Build
use Rattle.rules.specs.Unpack
use Rattle.rules.specs.Query
use Rattle.rules.specs.Program

unfoldable pub computing : Unit {0}
unfolding
    Lists.all Lists.any Lists.keep Lists.position Lists.over Lists.filled Lists.update Lists.flat_map Lists.count_from
    Lists.range Lists.distinct
    Columns.zip_links Columns.link_list Columns.opposite Columns.table Columns.entry Columns.rank Columns.begin
    Columns.places Columns.entries Columns.room Columns.equally_long Columns.marked_table Columns.marked
    TableRules.tail_of TableRules.head_of TableRules.used TableRules.opens_test TableRules.numbers_test
    TableRules.entry_test TableRules.shape_test TableRules.rank_test TableRules.side_test TableRules.ranks_test
    TableRules.table_test
    Refusals.first_met Refusals.short Refusals.build_scratch Refusals.names_none_above Refusals.loop
    Refusals.goes_before Refusals.ascending Refusals.columns_fit Refusals.table_short Refusals.lent_short
    Refusals.graph_rows Refusals.order_rows Refusals.graph_refusal Refusals.build_refusal Refusals.query_scratch
    Refusals.ends_fit Refusals.offset_fits Refusals.check_rows Refusals.end_rows Refusals.check_refusal
    Refusals.query_refusal
    Heap.leaves_first Heap.push
    Graph.leaves Graph.enters Graph.outs Graph.ins Graph.joins Graph.reduce Graph.add_or_reduce Graph.kept Graph.disconnect
    Search.init Search.offer Search.relax Search.with_heap Search.mark_settled Search.settle Search.reached Search.run
    Search.search_fuel Search.answer Search.find_max_weight
    Build.and_then Build.in_pool Build.link_arc Build.from_links Build.shortcut Build.add Build.unless_kept
    Build.within_sum Build.unless_witness Build.ask Build.pair Build.pairs_of Build.handle_shortcuts Build.contract_node Build.arcs_of
    Build.neighbour_of Build.raw Build.level_raws Build.raws Build.in_tables Build.rank_step Build.rank_steps
    Build.contraction Build.place Build.open_entry Build.finish Build.running_sums Build.starts_of Build.laid
    Build.finished Build.ranks_of Build.finish_contraction Build.built Build.unless_refused Build.build
    Unpack.is_shortcut Unpack.unpack Unpack.unpacked
    Query.zip_ends Query.end_list Query.counts Query.improve Query.coincide Query.coincide_all Query.first_step
    Query.no_label Query.lower Query.with_heap Query.untouched Query.offer Query.enter Query.stalls Query.relax
    Query.mark_settled Query.settle Query.turn Query.round Query.both_empty Query.rounds Query.climb Query.root
    Query.walk Query.no_route Query.handed_back Query.query_fuel Query.entered Query.searched Query.route
    Query.unless_refused Query.query
    Program.word_built Program.word_route Program.word_none Program.word_refused Program.word_bad_record
    Program.word_too_long Program.digits Program.decimal Program.line Program.refused_line Program.counts_line Program.built_line
    Program.route_line Program.bad_record Program.record_length Program.kind_of Program.whole Program.u16_at
    Program.u32_at Program.link_at Program.blank_table Program.program_call Program.query_call Program.after_build
    Program.at_limit Program.answer_line Program.no_order_yet Program.act Program.at_end Program.follow Program.lines Program.program
computing = tt
