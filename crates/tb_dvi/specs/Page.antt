-- What the writer of a page promises.
use Rattle.std.specs.Prelude.{◌≡◌, ◌≢◌, ℕ, ℤ, pos, ◌+ℤ◌, FitsSigned, true, false, List, ◌++◌, map, flat_map, Option, Some, None, Result, Ok, Err}
use Rattle.std.specs.Int.{w32}
use Rattle.tb_pool.specs.Lists.{Lists}
use Rattle.tb_node.specs.declared.Node.{Node}
use Rattle.tb_node.specs.PlainNodes.{plain_list}
use Rattle.tb_report.specs.Printable.{IsPrintableList}
use Rattle.tb_text.specs.Fronts.{PutsFront}
use Rattle.tb_dvi.specs.declared.placement.Extent.{Extent}
use Rattle.tb_dvi.specs.declared.placement.PlaceFault.{PlaceFault}
use Rattle.tb_dvi.specs.declared.placement.PlaceFault.TheVariants as place_faults
use Rattle.tb_dvi.specs.declared.page.Part.{Part}
use Rattle.tb_dvi.specs.declared.page.DviFault.{DviFault}
use Rattle.tb_dvi.specs.declared.page.DviFault.TheVariants as faults
use Rattle.tb_dvi.specs.Placement.{Placement, PlainPart, Spot, parts_placed}
use Rattle.tb_dvi.specs.File.{Page, placement_bytes, page_bytes, has_far, is_too_far}

-- a part of a page with the nodes of its list
abbrev pub part_shown : Lists Node → Part → PlainPart
part_shown store p = record { h = p.h; at = p.at; nodes = plain_list store p.list; set = p.set }

-- the parts of a page with the nodes of their lists
abbrev pub parts_shown : Lists Node → List Part → List PlainPart
parts_shown store ps = map (part_shown store) ps

-- a page of these parts
abbrev pub parts_page : Lists Node → ℕ → List Part → Page
parts_page store number ps = record { number = number; placed = parts_placed (parts_shown store ps) }

-- a part that can be shown: its list is live, the sums of its nodes fit, the share of its glue has a value, and it is at most 32 bits to the right
pub record IsShowable (store : Lists Node) (p : Part) : Type 0 where
  pub list : IsPrintableList store p.list
  pub share : p.set.den ≢ pos 0
  pub right : FitsSigned w32 p.h

-- what is to be shown of an item, and the label that was made of it; or there was no memory
abbrev pub Shows : {E : Type 0} → Result (Option Extent) E → List ℕ → Option Spot → Type 0
Shows (Ok None) label spot = spot ≡ None
Shows (Ok (Some e)) label spot = spot ≡ Some (record { down = e.height +ℤ e.depth; label = label; rule = e.rule })
Shows (Err e) label spot = Unit {0}

-- the bytes of these placements are appended, and none is too far up or down; or one is, or there was no memory, and a front of them is there
abbrev pub Writes : Result (Unit {0}) PlaceFault → List ℕ → List ℕ → List Placement → Type 0
Writes (Ok u) old new ps = (new ≡ old ++ flat_map placement_bytes ps) × (has_far ps ≡ false)
Writes (Err place_faults.Far) old new ps = (has_far ps ≡ true) × PutsFront old (flat_map placement_bytes ps) new
Writes (Err place_faults.Memory) old new ps = PutsFront old (flat_map placement_bytes ps) new

-- the bytes of a page are appended, and no item is too far up or down; or one is, or there was no memory, and a front of them is there
abbrev pub WritesPage : Result (Unit {0}) PlaceFault → List ℕ → List ℕ → ℤ → Page → Type 0
WritesPage (Ok u) old new last p = (new ≡ old ++ page_bytes last p) × (has_far p.placed ≡ false)
WritesPage (Err place_faults.Far) old new last p = (has_far p.placed ≡ true) × PutsFront old (page_bytes last p) new
WritesPage (Err place_faults.Memory) old new last p = PutsFront old (page_bytes last p) new

-- the page is out of range, or there was no memory
abbrev pub MissesPage : DviFault → ℕ → Page → Type 0
MissesPage (faults.TooFar number) place p = (number ≡ p.number) × (is_too_far place p ≡ true)
MissesPage faults.Memory place p = Unit {0}

-- the bytes of a page are appended, and it is in range at its place; or it is not; or there was no memory
abbrev pub PutsPage : Result (Unit {0}) DviFault → List ℕ → List ℕ → ℕ → ℤ → Page → Type 0
PutsPage (Ok u) old new place last p = (new ≡ old ++ page_bytes last p) × (is_too_far place p ≡ false)
PutsPage (Err e) old new place last p = MissesPage e place p
