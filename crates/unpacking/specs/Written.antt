-- Nodes written into a path from a place on, where there is room for them: for any hierarchy of which the columns are.
use Rattle.std.specs.Prelude.{List, ◌≡◌, ℕ, ◌+◌, ◌^◌, ◌<◌, ◌≤◌, length, take}
use Rattle.rules.specs.Numbers.{invalid}
use Rattle.rules.specs.Lists.{written}
use Rattle.rules.specs.Columns.{Hierarchy, Side, forward, backward, table}
use Rattle.rules.specs.TableRules.{used, TableRules}
use Rattle.rules.specs.Unpack.{unpacked}

-- the column of the entries' tails
unfoldable pub tails : Hierarchy → Side → List ℕ
tails h forward = h.forward.bases
tails h backward = h.backward.neighbours

-- tables that keep the rules, with no mark for a number, of which g has the columns that unpacking reads
pub record Shown (n : ℕ) (h g : Hierarchy) : Type 0 where
  pub rules : TableRules n h
  pub few : (s : Side) → used n (table h s) ≤ invalid
  pub tails_are : (s : Side) → tails h s ≡ tails g s
  pub in_numbers_are : (s : Side) → (table h s).in_numbers ≡ (table g s).in_numbers
  pub out_numbers_are : (s : Side) → (table h s).out_numbers ≡ (table g s).out_numbers

-- a used entry of them
pub record Used (n : ℕ) (h g : Hierarchy) (s : Side) (e : ℕ) : Type 0 where
  pub tables : Shown n h g
  pub below : e < used n (table h s)

pub record Unpacking (g : Hierarchy) (s : Side) (e at limit : ℕ) : Type 0 where
  pub n : ℕ
  pub h : Hierarchy
  pub entry : Used n h g s e
  pub fits : at + limit < 2 ^ 64

-- the front of a list of nodes is counted, and written
pub record Put (nodes : List ℕ) (at limit r : ℕ) (path path' : List ℕ) : Type 0 where
  pub count : r ≡ length (take limit nodes)
  pub path_is : path' ≡ written path at (take limit nodes)

-- whichever tables they are, it is what the entry opens into
pub record Wrote (g : Hierarchy) (s : Side) (e at limit r : ℕ) (path path' : List ℕ) : Type 0 where
  pub put : {n : ℕ} {h : Hierarchy} → Used n h g s e → Put (unpacked h s e) at limit r path path'
