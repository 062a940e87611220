-- What a builder holds while a page is filled, as the state of the run.
use Rattle.std.proofs.Common.{◌≡◌, refl, sym, ◌∙◌, ap, subst, ℕ, Bool, true, false, ◌||◌, List, [], ◌∷◌, ◌++◌, Option, None, Some}
use Rattle.std.specs.Prelude.{IsSome, if◌then◌else◌}
use Rattle.std.proofs.lemmas.Bool.{true≢false}
use Rattle.tb_pool.specs.Lists.{Lists}
use Rattle.tb_node.specs.declared.Node.{Node}
use Rattle.tb_node.specs.Shape.{is_box}
use Rattle.tb_node.specs.PlainNodes.{mark, note, whatsit, PlainKind, plain, PlainNode, node_shape, is_insertion_kind}
use Rattle.tb_param.specs.declared.Params.{Params}
use Rattle.tb_insert.specs.declared.Class.{Class}
use Rattle.tb_builder.specs.declared.Builder.{Builder}
use Rattle.tb_builder.specs.declared.Course.{Course}
use Rattle.tb_builder.specs.FiredPages.{Boxed}
use Rattle.tb_builder.specs.Contents.{Contents, contents_of, frozen_with}
use Rattle.tb_builder.specs.PageProgress.{KeepsStart}
use Rattle.tb_items.specs.ItemsLeft.{with_more}
use Rattle.tb_builder.specs.Courses.{IsSound, IsPageSoFar, AllLoose, is_loose, freezes}
use Rattle.tb_builder.specs.declared.Ask.{Ask}
use Rattle.tb_plain.specs.Run.{MakeupState, makeup_ask, builder_holds}

loose-kind : (l : ℕ) (k : PlainKind) → is_loose k ≡ true → (let n : PlainNode = record { line = l; kind = k } in (is_box (node_shape n) || is_insertion_kind k) ≡ false)
loose-kind l (plain (mark name)) e = refl
loose-kind l (plain (note name)) e = refl
loose-kind l (plain whatsit) e = refl
loose-kind l k e = absurd (true≢false (sym e))

loose-free : (ns : List PlainNode) → AllLoose ns → freezes ns ≡ false
loose-free [] h = refl
loose-free (n ∷ ns) h = ap (λ b. b || freezes ns) (loose-kind n.line n.kind h.0) ∙ loose-free ns h.1

-- what the page is made for, by whether it is frozen
frozen-by : (p : Params) (o : Option Ask) (k : Course) (c : Contents) → IsPageSoFar o false k c → (IsSome o → freezes c.page ≡ true) → frozen_with o (makeup_ask p) ≡ makeup_ask p → o ≡ (if freezes c.page then Some (makeup_ask p) else None)
frozen-by p None k c st met e = sym (ap (λ b. if b then Some (makeup_ask p) else None) (loose-free c.page st.loose))
frozen-by p (Some f) k c st met e = ap (λ a. Some a) e ∙ sym (ap (λ b. if b then Some (makeup_ask p) else None) (met refl))

-- a sound builder on the page of a state holds what a state says
holds-state : (p : Params) (of : MakeupState) (b : Builder) (s : Lists Node) (number : ℕ) → IsSound b s → b.stopped ≡ false → KeepsStart (builder_holds p of) (contents_of b s) (makeup_ask p)
    → contents_of b s ≡ builder_holds p (record { page = (contents_of b s).page; waiting = (contents_of b s).waiting; number = number })
holds-state p of b s number sound going h =
    let c : Contents = contents_of b s in
    let o = frozen-by p b.frozen b.course c (subst (λ x. IsPageSoFar b.frozen x b.course c) going sound.page) (λ some. sound.met some going) h.made in
    (λ i. holding (h.classes i) (h.boxes i) c.page c.waiting (h.held i) (o i) (going i))
  where
    holding : List Class → List Boxed → List PlainNode → List PlainNode → List PlainNode → Option Ask → Bool → Contents
    holding classes boxes page waiting held frozen stopped = record { classes = classes; boxes = boxes; page = page; waiting = waiting; held = held; frozen = frozen; stopped = stopped }

-- with more nodes behind what waits
pub holds-more : (p : Params) (of : MakeupState) (b : Builder) (s : Lists Node) (more : List PlainNode) (number : ℕ) → IsSound b s → b.stopped ≡ false → KeepsStart (builder_holds p of) (with_more more (contents_of b s)) (makeup_ask p)
    → with_more more (contents_of b s) ≡ builder_holds p (record { page = (contents_of b s).page; waiting = (contents_of b s).waiting ++ more; number = number })
holds-more p of b s more number sound going h = ap (with_more more) (holds-state p of b s number sound going (record { classes = h.classes; boxes = h.boxes; held = h.held; made = h.made }))

-- what the page of a state is made for
pub state-made : (p : Params) (s : MakeupState) → frozen_with (builder_holds p s).frozen (makeup_ask p) ≡ makeup_ask p
state-made p s = by_test (freezes s.page)
  where
    by_test : (b : Bool) → frozen_with (if b then Some (makeup_ask p) else None) (makeup_ask p) ≡ makeup_ask p
    by_test true = refl
    by_test false = refl
