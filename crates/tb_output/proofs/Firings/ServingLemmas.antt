-- A firing that was begun: the builder's boxes are emptied, then the routine works.
use Rattle.std.proofs.Common.{◌≡◌, ◌≢◌, refl, sym, subst, ◌∙◌, ℕ, List, ◌∷◌, ◌++◌, Option, IsSome}
use Rattle.std.specs.List.{AllByRecursion}
use Rattle.tb_break.proofs.EachLemmas.{all-join}
use Rattle.tb_pool.specs.Lists.{Lists, IsLive, list_at}
use Rattle.tb_pool.specs.Frame.{IsNoneOf, OnlyChanged}
use Rattle.tb_pool.proofs.FrameLemmas.{none-front, none-back, none-join}
use Rattle.tb_node.specs.declared.Node.{Node}
use Rattle.tb_node.specs.PlainNodes.{plain_list}
use Rattle.tb_builder.specs.declared.Builder.{Builder}
use Rattle.tb_builder.specs.Contents.{contents_of}
use Rattle.tb_builder.specs.Courses.{IsSound}
use Rattle.tb_output.specs.Machine.{MachineView, machine_lists, IsMachine}
use Rattle.tb_sheet.specs.ApartLists.{AreNoneOf}
use Rattle.tb_output.specs.MachineFrame.{IsBack, back_lists, KeepsBack}
use Rattle.tb_builder.specs.BuilderLists.{builder_lists}
use Rattle.tb_output.specs.Firing.{KeepsServing}
use Rattle.tb_sheet.proofs.StandLemmas.{Stands}
use Rattle.tb_output.proofs.FiringWork.StandLemmas.{machine-live, frame-stands, frame-free, IsShownBy, frame-shown}
use Rattle.tb_sheet.proofs.ListsApart
use Rattle.tb_output.proofs.FiringWork.KeepLemmas.{back-live, back-list, back-lists_same, back-shows, back-stands}
use Rattle.tb_output.proofs.FiringWork.BuilderLemmas.{beside-owned, beside-sound, beside-contents, beside-free}

-- the builder's lists changed alone
module _ (m : MachineView) (b later : Builder) (store middle : Lists Node) (l : ℕ) (is : IsMachine m store) (back : IsBack l m store) (sound : IsSound later middle)
    (frame : OnlyChanged (builder_lists b store) (builder_lists later middle) store middle)
    (machine_free : AreNoneOf (machine_lists m) (builder_lists b store)) (back_free : AreNoneOf (back_lists store l) (builder_lists b store)) where
  -- what the machine shows is as before
  pub taken-machine : IsShownBy m store middle
  taken-machine = frame-shown m (builder_lists b store) (builder_lists later middle) store middle is frame machine_free

  back-stand : AllByRecursion (Stands store middle) (back_lists store l)
  back-stand = frame-stands (builder_lists b store) (builder_lists later middle) store middle frame (back_lists store l) (back-live l m store back) back_free

  pub taken-lists : back_lists middle l ≡ back_lists store l
  taken-lists = back-lists_same store middle l back-stand

  pub taken-list : list_at middle l ≡ list_at store l
  taken-list = back-list store middle l back-stand

  pub taken-shows : plain_list middle l ≡ plain_list store l
  taken-shows = back-shows store middle l back-stand

  pub taken-back : IsBack l m middle
  taken-back = back-stands store middle l back-stand m m refl is.apart (ListsApart.distinct-apart (back_lists store l) (machine_lists m) back.apart) back

  -- neither the machine's lists nor those that go back are the builder's
  pub taken-free : AreNoneOf (back_lists middle l ++ machine_lists m) (builder_lists later middle)
  taken-free = subst (λ ls. AreNoneOf (ls ++ machine_lists m) (builder_lists later middle)) (sym taken-lists)
      (all-join (λ q. IsNoneOf q (builder_lists later middle)) (back_lists store l) (machine_lists m)
      (frame-free (builder_lists b store) (builder_lists later middle) store middle frame (back_lists store l) (back-live l m store back) back_free)
      (frame-free (builder_lists b store) (builder_lists later middle) store middle frame (machine_lists m) (machine-live m store is) machine_free))

  -- then the routine worked, on lists that are none of the builder's
  module _ (now : MachineView) (new : Lists Node) (args : List ℕ) (body : ℕ) (keeps : KeepsBack l args m now middle new) (args_free : AreNoneOf args (builder_lists later middle))
      (args_new : (q : ℕ) → IsLive store q → IsNoneOf q (builder_lists b store) → q ≢ body → IsNoneOf q args) where
    mine : List ℕ
    mine = args ++ (back_lists middle l ++ machine_lists m)

    ours : List ℕ
    ours = back_lists new l ++ machine_lists now

    later-free : AreNoneOf (builder_lists later middle) (args ++ (back_lists middle l ++ machine_lists m))
    later-free = ListsApart.apart-swap (args ++ (back_lists middle l ++ machine_lists m)) (builder_lists later middle)
        (all-join (λ q. IsNoneOf q (builder_lists later middle)) args (back_lists middle l ++ machine_lists m) args_free taken-free)

    later-owned : builder_lists later new ≡ builder_lists later middle
    later-owned = beside-owned later (args ++ (back_lists middle l ++ machine_lists m)) (back_lists new l ++ machine_lists now) middle new sound keeps.frame later-free

    pub served-contents : contents_of later new ≡ contents_of later middle
    served-contents = beside-contents later (args ++ (back_lists middle l ++ machine_lists m)) (back_lists new l ++ machine_lists now) middle new sound keeps.frame later-free

    pub served-keeps : KeepsServing body l m now b later store new
    served-keeps = record {
      machine = keeps.machine;
      builder = beside-sound later (args ++ (back_lists middle l ++ machine_lists m)) (back_lists new l ++ machine_lists now) middle new sound keeps.frame later-free;
      back = keeps.back;
      apart = ListsApart.apart-swap (builder_lists later new) (back_lists new l ++ machine_lists now)
          (beside-free later (args ++ (back_lists middle l ++ machine_lists m)) (back_lists new l ++ machine_lists now) middle new sound keeps.frame later-free);
      frame = λ q live none.
          let mine_none = none-front q (body ∷ builder_lists b store) (back_lists store l ++ machine_lists m) none in
          let rest_none = none-back q (body ∷ builder_lists b store) (back_lists store l ++ machine_lists m) none in
          let first = frame q live mine_none.1 in
          let still : IsLive middle q = subst (λ (o : Option (List Node)). IsSome o) (sym first.0) live in
          let second = keeps.frame q still
          (none-join q args (back_lists middle l ++ machine_lists m) (args_new q live mine_none.1 (λ e. mine_none.0 (sym e)))
          (subst (λ ls. IsNoneOf q (ls ++ machine_lists m)) (sym taken-lists) rest_none)) in
          (second.0 ∙ first.0, none-join q (builder_lists later new) (back_lists new l ++ machine_lists now) (subst (IsNoneOf q) (sym later-owned) first.1) second.1);
      fields = keeps.fields;
    }
