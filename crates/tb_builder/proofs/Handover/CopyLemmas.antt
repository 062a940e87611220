-- A builder that keeps the same lists and the same page as another one holds what that one holds.
use Rattle.std.proofs.Common.{◌≡◌, sym, ◌∙◌, ap, subst, Bool, true, false, Option, Some, None, IsSome, map, arith}
use Rattle.std.specs.Prelude.{is_none}
use Rattle.tb_pool.specs.Lists.{Lists}
use Rattle.tb_node.specs.declared.Node.{Node}
use Rattle.tb_node.specs.PlainNodes.{plain_list}
use Rattle.tb_builder.specs.declared.Builder.{Builder}
use Rattle.tb_builder.specs.declared.Course.{Course}
use Rattle.tb_builder.specs.Reach.{holds_box}
use Rattle.tb_builder.specs.Contents.{Contents, contents_of, boxed_of}
use Rattle.tb_builder.specs.Ownership.{Ids, ids_of, IsOwned}
use Rattle.tb_builder.specs.Courses.{IsSound, AllLasting, IsPageSoFar, freezes}
use Rattle.tb_builder.specs.declared.Ask.{Ask}

-- of the course of a page whose goal is not frozen only its last node counts
unfrozen-page : (o : Option Ask) (t : Bool) (k l : Course) (x : Contents) → is_none o ≡ true → l.lasting ≡ k.lasting → IsPageSoFar o t k x → IsPageSoFar o t l x
unfrozen-page None false k l x none same h = record { loose = h.loose; lasting_is = same ∙ h.lasting_is }
unfrozen-page None true k l x none same h = h
unfrozen-page (Some f) t k l x none same h = let no : ⊥ = grind (arith, none) in absurd no

module _ (b c : Builder) (ids : ids_of c ≡ ids_of b) (frozen : c.frozen ≡ b.frozen) (stopped : c.stopped ≡ b.stopped) where
  pub contents-copied : (s : Lists Node) → contents_of c s ≡ contents_of b s
  contents-copied s = λ j. record {
    classes = map (λ e. e.class) (ids j).boxes;
    boxes = map (boxed_of s) (ids j).boxes;
    page = plain_list s (ids j).page;
    waiting = plain_list s (ids j).waiting;
    held = plain_list s (ids j).held;
    frozen = frozen j;
    stopped = stopped j;
  }

  sound-by : c.opened ≡ b.opened → (s : Lists Node) → (IsPageSoFar b.frozen b.stopped b.course (contents_of b s) → IsPageSoFar b.frozen b.stopped c.course (contents_of b s)) → IsSound b s → IsSound c s
  sound-by opened s page h =
      let same = contents-copied s in
      record {
        own = subst (λ (i : Ids). IsOwned i s) (sym ids) h.own;
        opened = opened ∙ h.opened ∙ ap (λ (x : Contents). holds_box x.page) (sym same);
        closed = λ e. subst (λ (x : Contents). AllLasting x.page) (sym same) (h.closed (sym opened ∙ e));
        page = subst (λ (q : Option Ask × (Bool × Contents)). IsPageSoFar q.0 q.1.0 c.course q.1.1) (sym (λ j. (frozen j, (stopped j, same j)))) (page h.page);
        met = λ f t. ap (λ (x : Contents). freezes x.page) same ∙ h.met (subst (λ (o : Option Ask). IsSome o) frozen f) (sym stopped ∙ t);
      }

  pub sound-copied : c.opened ≡ b.opened → c.course ≡ b.course → (s : Lists Node) → IsSound b s → IsSound c s
  sound-copied opened course s = sound-by opened s (subst (λ (k : Course). IsPageSoFar b.frozen b.stopped k (contents_of b s)) (sym course))

  pub sound-unfrozen : c.opened ≡ b.opened → is_none b.frozen ≡ true → c.course.lasting ≡ b.course.lasting → (s : Lists Node) → IsSound b s → IsSound c s
  sound-unfrozen opened none lasting s = sound-by opened s (unfrozen-page b.frozen b.stopped b.course c.course (contents_of b s) none lasting)
