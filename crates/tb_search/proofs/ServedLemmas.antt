-- What can be served, with fewer nodes behind or with a break among them.
use Rattle.std.proofs.Common.{◌≡◌, refl, subst, ◌≤◌, List, [], ◌∷◌, ◌++◌, arith}
use Rattle.std.specs.Prelude.{All}
use Rattle.std.proofs.lemmas.List.Elements.{All-from_recursion, recursion_from_All}
use Rattle.tb_break.proofs.EachLemmas.{all-front, all-back, all-join}
use Rattle.tb_node.specs.PlainNodes.{PlainNode}
use Rattle.std.proofs.lemmas.Int.{ints}
use Rattle.tb_insert.specs.declared.Class.{Class}
use Rattle.tb_float.specs.Ranges.{IsWithin}
use Rattle.tb_galley.specs.declared.Item.{Item}
use Rattle.tb_output.specs.State.{State}
use Rattle.tb_items.specs.GalleyNodes.{IsGalleyNode}
use Rattle.tb_run.specs.ServedStates.{notes_waiting, notes_left, IsServed}
use Rattle.tb_run.proofs.ServedAgain.FiredNodes.{notes-append}
use Rattle.tb_run.proofs.ServedAgain.ServedFirings.{reach_where, within-more}
use Rattle.tb_best.specs.ItemsAhead.{state_with}
use Rattle.tb_search.specs.Branches.{first_break}

-- without those at the end
pub served-front : (ns ms : List PlainNode) (s : State) → IsServed (ns ++ ms) s → IsServed ns s
served-front ns ms s h =
    let a = notes-append ns ms in
    let fewer : notes_left ns s ≤ notes_left (ns ++ ms) s = omega (arith, a) in
    record {
      nodes = All-from_recursion (IsGalleyNode s.classes) ns (all-front (IsGalleyNode s.classes) ns ms (recursion_from_All (IsGalleyNode s.classes) (ns ++ ms) h.nodes));
      held = h.held;
      boxes = h.boxes;
      entries = h.entries;
      notes = let b = h.notes in omega (arith, b, fewer);
      bottom = within-more (reach_where (notes_left (ns ++ ms) s)) (reach_where (notes_left ns s)) s.note_bottom (omega (arith, fewer)) h.bottom;
    }

-- what waits in the state is of no account
pub served-with : (ns ms : List PlainNode) (s : State) → IsServed ns s → IsServed ns (state_with ms s)
served-with ns ms s h = record { nodes = h.nodes; held = h.held; boxes = h.boxes; entries = h.entries; notes = h.notes; bottom = h.bottom }

-- nodes that take no marginal notes are put among them
pub served-among : (ns more ms : List PlainNode) (s : State) → All (IsGalleyNode s.classes) more → notes_waiting more ≡ 0 → IsServed (ns ++ ms) s → IsServed (ns ++ (more ++ ms)) s
served-among ns more ms s good none h =
    let a = notes-append ns ms in
    let b = notes-append ns (more ++ ms) in
    let c = notes-append more ms in
    let same : notes_left (ns ++ ms) s ≡ notes_left (ns ++ (more ++ ms)) s = omega (arith, a, b, c, none) in
    let each = recursion_from_All (IsGalleyNode s.classes) (ns ++ ms) h.nodes in
    let front = all-front (IsGalleyNode s.classes) ns ms each in
    let back = all-back (IsGalleyNode s.classes) ns ms each in
    record {
      nodes = All-from_recursion (IsGalleyNode s.classes) (ns ++ (more ++ ms))
          (all-join (IsGalleyNode s.classes) ns (more ++ ms) front (all-join (IsGalleyNode s.classes) more ms (recursion_from_All (IsGalleyNode s.classes) more good) back));
      held = h.held;
      boxes = h.boxes;
      entries = h.entries;
      notes = let n = h.notes in omega (arith, n, same);
      bottom = subst (λ k. IsWithin (reach_where k) s.note_bottom) same h.bottom;
    }

-- a forced break can be served
pub break-good : (cs : List Class) (ns : List Item) → All (IsGalleyNode cs) (first_break ns)
break-good cs [] = All-from_recursion (IsGalleyNode cs) [] tt
break-good cs (n ∷ ns) = All-from_recursion (IsGalleyNode cs) (first_break (n ∷ ns))
    (record { sized = record { shape = record { low = omega (arith, ints); high = omega (arith, ints) }; kind = tt }; servable = omega (arith, ints) }, tt)

pub break-notes : (ns : List Item) → notes_waiting (first_break ns) ≡ 0
break-notes [] = refl
break-notes (n ∷ ns) = refl
