-- What the floats that are still to be called weigh: those of the current list, and those that acts will take.
use Rattle.std.proofs.Common.{◌≡◌, refl, ap, ℕ, zero, suc, ◌+◌, ◌≤◌, ◌⊎◌, inl, inr, List, [], ◌∷◌, ◌++◌, arith}
use Rattle.tb_node.specs.declared.Act.{Act}
use Rattle.tb_node.specs.declared.Act.TheVariants as acts
use Rattle.tb_node.specs.declared.Float.{Float}
use Rattle.tb_node.specs.PlainNodes.{PlainKind, plain, ins, act, PlainNode}
use Rattle.tb_node.proofs.Weights.{Weight, act_weight, kind_weight, nodes_weight}
use Rattle.tb_float.specs.declared.Entry.{Entry}
use Rattle.tb_float.specs.declared.Entry.TheVariants as entries
use Rattle.tb_float.specs.Lists.{floats_among}
use Rattle.tb_laws.specs.Laws.{float_lines}
use Rattle.tb_laws.proofs.ClassesRise.RisingLists.{IsAmong, among-front, among-back}
use Rattle.tb_laws.proofs.ClassesRise.PageLines.{kind_deeds, deeds}
use Rattle.tb_laws.proofs.NothingLost.StateWeights.{floats_weight, entries_weight}
use Rattle.tb_why_laws.proofs.OnePlace.WaitingLines.{taken_line, act_takes}
use Rattle.tb_why_laws.proofs.OnePlace.Once.{of_line}
use Rattle.tb_why_laws.proofs.OnePlace.OnceLists.{among-parts, among-weight, weight-among}

-- what acts take weighs this
abbrev pub deeds_weight : Weight → List Act → ℕ
deeds_weight v [] = 0
deeds_weight v (a ∷ ds) = act_weight v a + deeds_weight v ds

pub deeds_weight-append : (v : Weight) (xs ys : List Act) → deeds_weight v (xs ++ ys) ≡ deeds_weight v xs + deeds_weight v ys
deeds_weight-append v [] ys = omega arith
deeds_weight-append v (x ∷ xs) ys = let h : deeds_weight v (xs ++ ys) ≡ deeds_weight v xs + deeds_weight v ys = deeds_weight-append v xs ys in omega arith

-- the acts of a list weigh no more than it
pub deeds-within : (v : Weight) (ns : List PlainNode) → deeds_weight v (deeds ns) ≤ nodes_weight v ns
deeds-within v [] = omega arith
deeds-within v (n ∷ ns) = by_kind n.line n.kind (deeds-within v ns)
  where
    by_kind : (l : ℕ) (k : PlainKind) → deeds_weight v (deeds ns) ≤ nodes_weight v ns → deeds_weight v (kind_deeds k ++ deeds ns) ≤ kind_weight v l k + nodes_weight v ns
    by_kind l (plain m) h = more (kind_weight v l (plain m)) (deeds_weight v (deeds ns)) (nodes_weight v ns) h
      where
        more : (a b c : ℕ) → b ≤ c → b ≤ a + c
        more a b c h = omega arith
    by_kind l (ins i) h = omega arith
    by_kind l (act a) h = omega arith

-- ---- of one line

-- one of two numbers is not 0
one-of : (a b : ℕ) → 1 ≤ a + b → (1 ≤ a) ⊎ (1 ≤ b)
one-of zero b l = inr (omega arith)
one-of (suc a) b l = inl (omega arith)

-- the floats of entries weigh as the entries
entries-floats : (n : ℕ) (es : List Entry) → entries_weight (of_line n) es ≡ floats_weight (of_line n) (floats_among es)
entries-floats n [] = refl
entries-floats n (entries.Float f ∷ es) = ap (λ x. (of_line n).float f.line + x) (entries-floats n es)
entries-floats n (entries.Left m ∷ es) = let h : entries_weight (of_line n) es ≡ floats_weight (of_line n) (floats_among es) = entries-floats n es in omega arith
entries-floats n (entries.Right m ∷ es) = entries-floats n es

-- the float that an act takes
taken-float : (n : ℕ) (f : Float) (x : ℕ) → IsAmong n (f.line ∷ []) → 1 ≤ (of_line n).float f.line + x
taken-float n f x i = let h : 1 ≤ (of_line n).float f.line + 0 = among-weight n (f ∷ []) i in omega arith

deeds-among : (n : ℕ) (ds : List Act) → IsAmong n (act_takes ds) → 1 ≤ deeds_weight (of_line n) ds
deeds-among n [] i = absurd i
deeds-among n (a ∷ ds) i = by_part a (λ j. deeds-among n ds j) (among-parts n (taken_line a) (act_takes ds) i)
  where
    by_act : (a : Act) → IsAmong n (taken_line a) → 1 ≤ act_weight (of_line n) a + deeds_weight (of_line n) ds
    by_act (acts.Take f) i = taken-float n f (deeds_weight (of_line n) ds) i
    by_act (acts.Head f) i = taken-float n f (deeds_weight (of_line n) ds) i
    by_act (acts.TakeMargin m) i = absurd i
    by_act a i = absurd i

    by_part : (a : Act) → (IsAmong n (act_takes ds) → 1 ≤ deeds_weight (of_line n) ds) → IsAmong n (taken_line a) ⊎ IsAmong n (act_takes ds) → 1 ≤ act_weight (of_line n) a + deeds_weight (of_line n) ds
    by_part a again (inl j) = by_act a j
    by_part a again (inr j) = let h : 1 ≤ deeds_weight (of_line n) ds = again j in omega arith

same : (x : ℕ) → 1 ≤ 0 + x → 1 ≤ x
same x h = omega arith

among-deeds : (n : ℕ) (ds : List Act) → 1 ≤ deeds_weight (of_line n) ds → IsAmong n (act_takes ds)
among-deeds n [] l = let no : ⊥ = omega arith in absurd no
among-deeds n (acts.Take f ∷ ds) l = by_line (λ h. among-deeds n ds h) (one-of ((of_line n).float f.line + 0) (deeds_weight (of_line n) ds) (omega (arith, l)))
  where
    by_line : (1 ≤ deeds_weight (of_line n) ds → IsAmong n (act_takes ds)) → (1 ≤ (of_line n).float f.line + 0) ⊎ (1 ≤ deeds_weight (of_line n) ds) → IsAmong n (f.line ∷ act_takes ds)
    by_line again (inl h) = among-front n (f.line ∷ []) (act_takes ds) (weight-among n (f ∷ []) h)
    by_line again (inr h) = inr (again h)
among-deeds n (acts.Head f ∷ ds) l = by_line (λ h. among-deeds n ds h) (one-of ((of_line n).float f.line + 0) (deeds_weight (of_line n) ds) (omega (arith, l)))
  where
    by_line : (1 ≤ deeds_weight (of_line n) ds → IsAmong n (act_takes ds)) → (1 ≤ (of_line n).float f.line + 0) ⊎ (1 ≤ deeds_weight (of_line n) ds) → IsAmong n (f.line ∷ act_takes ds)
    by_line again (inl h) = among-front n (f.line ∷ []) (act_takes ds) (weight-among n (f ∷ []) h)
    by_line again (inr h) = inr (again h)
among-deeds n (acts.TakeMargin m ∷ ds) l = among-deeds n ds (same (deeds_weight (of_line n) ds) l)
among-deeds n (a ∷ ds) l = among-deeds n ds (same (deeds_weight (of_line n) ds) l)

-- ---- both

-- the lines of the floats of these entries, and of those that these acts take
abbrev pub called_later : List Entry → List Act → List ℕ
called_later es ds = float_lines (floats_among es) ++ act_takes ds

abbrev pub later_weight : Weight → List Entry → List Act → ℕ
later_weight v es ds = entries_weight v es + deeds_weight v ds

-- a line among them weighs
pub later-weighs : (n : ℕ) (es : List Entry) (ds : List Act) → IsAmong n (called_later es ds) → 1 ≤ later_weight (of_line n) es ds
later-weighs n es ds i = by_part (among-parts n (float_lines (floats_among es)) (act_takes ds) i)
  where
    by_part : IsAmong n (float_lines (floats_among es)) ⊎ IsAmong n (act_takes ds) → 1 ≤ later_weight (of_line n) es ds
    by_part (inl j) =
        let e : entries_weight (of_line n) es ≡ floats_weight (of_line n) (floats_among es) = entries-floats n es in
        let h : 1 ≤ floats_weight (of_line n) (floats_among es) = among-weight n (floats_among es) j in
        omega arith
    by_part (inr j) = let h : 1 ≤ deeds_weight (of_line n) ds = deeds-among n ds j in omega arith

pub weighs-later : (n : ℕ) (es : List Entry) (ds : List Act) → 1 ≤ later_weight (of_line n) es ds → IsAmong n (called_later es ds)
weighs-later n es ds l = by_part (one-of (entries_weight (of_line n) es) (deeds_weight (of_line n) ds) l)
  where
    by_part : (1 ≤ entries_weight (of_line n) es) ⊎ (1 ≤ deeds_weight (of_line n) ds) → IsAmong n (called_later es ds)
    by_part (inl h) = among-front n (float_lines (floats_among es)) (act_takes ds) (weight-among n (floats_among es) (let e : entries_weight (of_line n) es ≡ floats_weight (of_line n) (floats_among es) = entries-floats n es in omega arith))
    by_part (inr h) = among-back n (float_lines (floats_among es)) (act_takes ds) (among-deeds n ds h)
