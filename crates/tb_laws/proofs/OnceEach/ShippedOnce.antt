-- Each box and rule of a valid galley ships once, those of the text in their order; each float and each note ships once.
use Rattle.std.proofs.Common.{◌≡◌, refl, sym, ◌∙◌, subst, ℕ, ◌+◌, Bool, true, false, List, [], ◌∷◌, ◌++◌, append-nil}
use Rattle.std.specs.Prelude.{◌&&◌, if◌then◌else◌}
use Rattle.tb_node.specs.declared.Act.TheVariants as acts
use Rattle.tb_node.specs.PlainNodes.{act, on_line, clearpage_kinds}
use Rattle.tb_param.specs.declared.Params.{Params}
use Rattle.tb_param.specs.Release.{has_second}
use Rattle.tb_galley.specs.declared.Item.{Item}
use Rattle.tb_galley.specs.declared.ItemKind.{ItemKind}
use Rattle.tb_galley.specs.declared.ItemKind.TheVariants as items
use Rattle.tb_galley.specs.declared.Galley.{Galley}
use Rattle.tb_galley.specs.GalleyNodes.{with_firings, two_after, params_after, item_kinds, item_nodes, expanded}
use Rattle.tb_galley.specs.Valid.{IsValid}
use Rattle.tb_steps.specs.Run.{run_of}
use Rattle.tb_laws.specs.Laws.{text_line, foot_line, note_line, lines_by, galley_floats, float_lines, shipped_nodes, note_lines_of, node_lines, shipped_boxes, shipped_floats, ShipsOnce, EndsDone}
use Rattle.tb_column.proofs.Within.{Within}
use Rattle.tb_column.proofs.PrintedLines.{prints, prints-append, AllPlain}
use Rattle.tb_laws.proofs.OnceEach.PrintedRuns.{valid-reads}
use Rattle.tb_laws.proofs.OnceEach.CountLemmas.{permutation-from-counts}
use Rattle.tb_laws.proofs.NothingLost.ShippedRuns.{shipped-weight}
use Rattle.tb_laws.proofs.OnceEach.ShippedCounts.{Measure, of_boxes, of_floats, of_notes, boxes-measure, floats-measure, notes-measure, galley-boxes, galley-has-floats, galley-has-notes, events-nodes, events-plain, events-lines}
use Rattle.tb_laws.proofs.OnceEach.ShippedLines.{AllOut, text-out}
use Rattle.tb_laws.proofs.OnceEach.OnceLemmas.{counted, text-once, feet-once}

-- ---- the lines of the galley's nodes

pub item-prints : (p : Params) (two : Bool) (n : ℕ) (k : ItemKind) → prints (on_line n (item_kinds p two k)) ≡ text_line n k
item-prints p two n (items.Float f vert) = by_taking (has_second p && two && f.wide)
  where
    by_taking : (t : Bool) → prints (on_line n (if t then act (acts.Take f) ∷ [] else with_firings (acts.Take f) vert)) ≡ []
    by_taking true = refl
    by_taking false = refl
item-prints p two n k = refl

items-print : (p : Params) (two : Bool) (ns : List Item) → prints (item_nodes p two ns) ≡ lines_by text_line ns
items-print p two [] = refl
items-print p two (n ∷ ns) =
    prints-append (on_line n.line (item_kinds p two n.kind)) (item_nodes (params_after p n.kind) (two_after two n.kind) ns)
    ∙ (λ i. item-prints p two n.line n.kind i ++ items-print (params_after p n.kind) (two_after two n.kind) ns i)

expanded-prints : (g : Galley) → prints (expanded g) ≡ lines_by text_line g.items
unfolding expanded
expanded-prints g =
    prints-append (item_nodes g.params false g.items) (on_line g.end_line clearpage_kinds) ∙ append-nil (prints (item_nodes g.params false g.items))
    ∙ items-print g.params false g.items

-- ---- the law

module _ (g : Galley) (valid : IsValid g) (ended : EndsDone (run_of g).end) where
  plain_nodes : AllPlain (shipped_nodes (run_of g).events)
  plain_nodes = events-plain (run_of g).events ((valid-reads g valid).plain_events ended)

  -- what is shipped measures as the galley
  pub boxes-shipped : (m : Measure) → m.of (shipped_boxes (run_of g)) ≡ m.of (lines_by text_line g.items) + m.of (lines_by foot_line g.items)
  boxes-shipped m = sym (boxes-measure m (shipped_nodes (run_of g).events) plain_nodes) ∙ sym (events-nodes (of_boxes m) (run_of g).events) ∙ shipped-weight g valid ended (of_boxes m) ∙ galley-boxes m g.items

  pub floats-shipped : (m : Measure) → m.of (shipped_floats (run_of g)) ≡ m.of (float_lines (galley_floats g.items))
  floats-shipped m = sym (floats-measure m (shipped_nodes (run_of g).events) plain_nodes) ∙ sym (events-nodes (of_floats m) (run_of g).events) ∙ shipped-weight g valid ended (of_floats m) ∙ galley-has-floats m g.items

  notes-shipped : (m : Measure) → m.of (node_lines note_lines_of (shipped_nodes (run_of g).events)) ≡ m.of (lines_by note_line g.items)
  notes-shipped m = sym (notes-measure m (shipped_nodes (run_of g).events) plain_nodes) ∙ sym (events-nodes (of_notes m) (run_of g).events) ∙ shipped-weight g valid ended (of_notes m) ∙ galley-has-notes m g.items valid.items

  text_outside : AllOut (lines_by foot_line g.items) (lines_by text_line g.items)
  text_outside = text-out 0 g.items (g.end_line ∷ []) valid.lines

  -- the text is within what is shipped
  text_within : Within (lines_by text_line g.items) (shipped_boxes (run_of g))
  text_within = subst (λ l. Within l (shipped_boxes (run_of g))) (expanded-prints g) (subst (Within (prints (expanded g))) (events-lines (run_of g).events) ((valid-reads g valid).lines ended))

  pub ships-once : ShipsOnce g (run_of g)
  ships-once = record {
    text = text-once (lines_by foot_line g.items) (lines_by text_line g.items) (shipped_boxes (run_of g)) text_outside boxes-shipped text_within;
    feet = feet-once (lines_by foot_line g.items) (lines_by text_line g.items) (shipped_boxes (run_of g)) text_outside boxes-shipped text_within;
    floats = permutation-from-counts (shipped_floats (run_of g)) (float_lines (galley_floats g.items)) (λ n. floats-shipped (counted n));
    notes = permutation-from-counts (node_lines note_lines_of (shipped_nodes (run_of g).events)) (lines_by note_line g.items) (λ n. notes-shipped (counted n));
  }
