-- A run of the page makeup from its galley: it ships what the galley's nodes weigh, and the text in its order.
use Rattle.std.proofs.Common.{◌≡◌, refl, sym, ap, subst, ℕ, suc, pos, ◌+◌, Bool, true, false, List, [], ◌∷◌, Some, None, is_some, arith}
use Rattle.std.specs.Prelude.{◌==◌, int_lt, if◌then◌else◌}
use Rattle.std.proofs.lemmas.Bool.{eqb-true, true≢false}
use Rattle.tb_node.specs.PlainNodes.{on_line}
use Rattle.tb_node.proofs.Weights.{Weight, nodes_weight}
use Rattle.tb_param.specs.declared.Params.{Params}
use Rattle.tb_galley.specs.declared.Item.{Item}
use Rattle.tb_galley.specs.declared.ItemKind.{ItemKind}
use Rattle.tb_galley.specs.declared.ItemKind.TheVariants as items
use Rattle.tb_galley.specs.declared.Galley.{Galley}
use Rattle.tb_builder.specs.Contents.{node_count}
use Rattle.tb_plain.specs.GalleyNodes.{clearing_kinds, makeup_kinds, makeup_nodes, made_up}
use Rattle.tb_plain.specs.Suitability.{is_suited, unsuited_among, IsSuited}
use Rattle.tb_plain.specs.Run.{done, node_limit, MakeupRun, steps_left, first_makeup, makeup_from, makeup_of, sent_of}
use Rattle.tb_builder.proofs.FiredPages.PageWeights.{IsOnce}
use Rattle.tb_builder.proofs.Cutting.CutLemmas.{class-both}
use Rattle.tb_plain.proofs.OurLemmas.{ours, AllOurs}
use Rattle.tb_plain.proofs.WeightLemmas.{NoMargin, run-keeps}
use Rattle.tb_column.proofs.Within.{Within}
use Rattle.tb_column.proofs.PrintedLines.{prints}
use Rattle.tb_sheet.proofs.PrintedSheets.{sent_prints, sent_weight}
use Rattle.tb_plain.proofs.OrderLemmas.{run-shows}

-- ---- the nodes of a galley

foot-ours : (class : ℕ) → (class == 254) ≡ true → IsOnce ours class
foot-ours class h = subst (IsOnce ours) (sym (eqb-true class 254 h)) refl

item-ours : (p : Params) (n : ℕ) (k : ItemKind) → is_suited k ≡ true → AllOurs (on_line n (makeup_kinds p k))
item-ours p n (items.Foot class ls) s = (foot-ours class s, tt)
item-ours p n (items.Float f vert) s = (tt, (tt, tt))
item-ours p n (items.Margin m vert) s = absurd (true≢false (sym s))
item-ours p n items.NewPage s = (tt, (tt, tt))
item-ours p n items.ClearPage s = (tt, (tt, tt))
item-ours p n items.OneColumn s = absurd (true≢false (sym s))
item-ours p n items.TwoColumn s = absurd (true≢false (sym s))
item-ours p n (items.Suppress area) s = absurd (true≢false (sym s))
item-ours p n (items.Page k) s = absurd (true≢false (sym s))
item-ours p n (items.Set c) s = absurd (true≢false (sym s))
item-ours p n (items.Head f) s = absurd (true≢false (sym s))
item-ours p n (items.Enlarge by star) s = absurd (true≢false (sym s))
item-ours p n k s = (tt, tt)

suited-both : (n : Item) (ns : List Item) → unsuited_among (n ∷ ns) ≡ None → (is_suited n.kind ≡ true) × (unsuited_among ns ≡ None)
suited-both n ns h = by_test (is_suited n.kind) refl h
  where
    by_test : (t : Bool) → is_suited n.kind ≡ t → (if t then unsuited_among ns else Some n.line) ≡ None → (is_suited n.kind ≡ true) × (unsuited_among ns ≡ None)
    by_test true e h = (e, h)
    by_test false e h = absurd (true≢false (ap is_some h))

items-ours : (p : Params) (ns : List Item) → unsuited_among ns ≡ None → AllOurs (makeup_nodes p ns)
items-ours p [] h = tt
items-ours p (n ∷ ns) h =
    let s = suited-both n ns h in
    class-both ours (on_line n.line (makeup_kinds p n.kind)) (makeup_nodes p ns) (item-ours p n.line n.kind s.0) (items-ours p ns s.1)

made-ours : (g : Galley) → IsSuited g → AllOurs (made_up g)
unfolding made_up
made-ours g h = class-both ours (makeup_nodes g.params g.items) (on_line g.end_line clearing_kinds) (items-ours g.params g.items h) (tt, (tt, tt))

-- ---- the run

-- if the run of a suited galley is done, it ships what its nodes weigh, and the lines of the text's boxes and rules are in
-- their order among those shipped
pub record ShipsAll (g : Galley) (r : MakeupRun) : Type 0 where
  pub weighs : r.end ≡ done → (v : Weight) → NoMargin v → sent_weight v (sent_of r) ≡ nodes_weight v (made_up g)
  pub ordered : r.end ≡ done → Within (prints (made_up g)) (sent_prints (sent_of r))

pub ships-all : (g : Galley) → IsSuited g → ShipsAll g (makeup_of g)
unfolding makeup_of
ships-all g suited = by_nodes (int_lt g.params.maxnodes (pos (node_count (made_up g))))
  where
    r : MakeupRun
    r = makeup_from g.params (suc (steps_left g.params (first_makeup (made_up g)))) (first_makeup (made_up g))

    zero-first : (n m : ℕ) → n ≡ 0 + m → n ≡ m
    zero-first n m e = omega arith

    by_nodes : (t : Bool) → ShipsAll g (if t then record { events = []; end = node_limit (node_count (made_up g)) } else r)
    by_nodes true = record { weighs = λ e. cc; ordered = λ e. cc }
    by_nodes false = record {
      weighs = λ e v none. zero-first (sent_weight v (sent_of r)) (nodes_weight v (made_up g)) (run-keeps v g.params (suc (steps_left g.params (first_makeup (made_up g)))) (first_makeup (made_up g)) none (tt, made-ours g suited) e);
      ordered = λ e. run-shows g.params (suc (steps_left g.params (first_makeup (made_up g)))) (first_makeup (made_up g)) e;
    }
