-- The lists of a page whose insertions were taken out of the builder's boxes.
use Rattle.std.proofs.Common.{◌≡◌, ◌≢◌, sym, subst, ap, ℕ, ◌+◌, ◌≤◌, List, ◌∷◌, ◌++◌, length, arith}
use Rattle.std.specs.List.{AllByRecursion}
use Rattle.tb_break.proofs.EachLemmas.{all-join}
use Rattle.tb_pool.specs.Lists.{Lists, IsLive, list_at}
use Rattle.tb_pool.specs.Frame.{IsNoneOf, OnlyChanged}
use Rattle.tb_pool.proofs.FrameLemmas.{none-join}
use Rattle.tb_node.specs.declared.Node.{Node}
use Rattle.tb_node.specs.PlainNodes.{plain_list}
use Rattle.tb_builder.specs.declared.Builder.{Builder}
use Rattle.tb_builder.specs.Contents.{contents_of, box_count}
use Rattle.tb_column.specs.declared.NoteBox.{NoteBox}
use Rattle.tb_column.specs.Page.{IsPageList}
use Rattle.tb_column.specs.Notes.{note_lists, note_count}
use Rattle.tb_output.specs.Machine.{MachineView, machine_lists, IsMachine}
use Rattle.tb_sheet.specs.ApartLists.{AreNoneOf}
use Rattle.tb_output.specs.MachineFrame.{AreTextLists, back_lists}
use Rattle.tb_builder.specs.BuilderLists.{builder_lists}
use Rattle.tb_output.specs.Notes.{NotesTaken}
use Rattle.tb_sheet.proofs.StandLemmas.{Stands, list-same, list-stands, nodes-stand}
use Rattle.tb_output.proofs.FiringWork.StandLemmas.{machine-live}
use Rattle.tb_sheet.proofs.ListsApart
use Rattle.tb_output.proofs.FiringWork.ApartLemmas

-- a list that was live is none of the page's, but for its text
pub text-new : (b : Builder) (store : Lists Node) (body : ℕ) (notes : List NoteBox) → ((q : ℕ) → IsLive store q → IsNoneOf q (builder_lists b store) → IsNoneOf q (note_lists notes))
    → (q : ℕ) → IsLive store q → IsNoneOf q (builder_lists b store) → q ≢ body → IsNoneOf q (body ∷ note_lists notes)
text-new b store body notes fresh q live free differ = ((λ e. differ (sym e)), fresh q live free)

module _ (m : MachineView) (b later : Builder) (store middle : Lists Node) (l body : ℕ) (notes : List NoteBox) (is : IsMachine m store) (page : IsPageList store body)
    (frame : OnlyChanged (builder_lists b store) (builder_lists later middle) store middle) (body_free : IsNoneOf body (builder_lists b store)) (taken : NotesTaken m.classes notes b later store middle) where
  body-stands : Stands store middle body
  body-stands = (frame body page.live body_free).0

  pub body-shows : plain_list middle body ≡ plain_list store body
  body-shows = nodes-stand store middle body body-stands page.leaves

  pub body-list : list_at middle body ≡ list_at store body
  body-list = list-same store middle body body-stands

  -- they are none of the builder's
  pub text-free : AreNoneOf (body ∷ note_lists notes) (builder_lists later middle)
  text-free = ((frame body page.live body_free).1, taken.own.free)

  -- and can make a column
  module _ (back : AllByRecursion (IsLive store) (back_lists store l)) (same : back_lists middle l ≡ back_lists store l) (body_back : IsNoneOf body (back_lists store l)) (body_apart : IsNoneOf body (machine_lists m))
      (back_free : AreNoneOf (back_lists store l) (builder_lists b store)) (machine_free : AreNoneOf (machine_lists m) (builder_lists b store))
      (few : length (list_at store body) + length (list_at store m.held_page) + box_count (contents_of b store).boxes ≤ 8355839) (held : list_at middle m.held_page ≡ list_at store m.held_page) where
    pub text-few : length (list_at middle body) + length (list_at middle m.held_page) + note_count middle notes ≤ 8355839
    text-few = let own = ap length body-list in let before = ap length held in let count = taken.few in omega arith

    pub text-lists : AreTextLists 8355839 (back_lists middle l ++ machine_lists m) middle body notes
    text-lists = record {
      text = list-stands store middle body body-stands page;
      notes = record {
        rising = taken.rising;
        apart = (taken.own.fresh body page.live body_free, taken.own.apart);
        each = taken.each;
      };
      few = let all = text-few in omega arith;
      apart = subst (λ ls. AreNoneOf (body ∷ note_lists notes) (ls ++ machine_lists m)) (sym same) (
        none-join body (back_lists store l) (machine_lists m) body_back body_apart,
        ListsApart.apart-swap (back_lists store l ++ machine_lists m) (note_lists notes)
            (ApartLemmas.live-apart store (builder_lists b store) (back_lists store l ++ machine_lists m) (note_lists notes) (all-join (IsLive store) (back_lists store l) (machine_lists m) back (machine-live m store is))
            (all-join (λ q. IsNoneOf q (builder_lists b store)) (back_lists store l) (machine_lists m) back_free machine_free) taken.own.fresh),
      );
    }
