use Rattle.std.proofs.Common.{◌≡◌, ◌≢◌, sym, subst, ap, ◌∙◌, ℕ, ◌+◌, ◌≤◌, List, [], ◌∷◌, length, Option, is_some, arith, None, unwrap_or}
use Rattle.std.proofs.lemmas.Bool.{true≢false}
use Rattle.std.specs.FinMap.{get}
use Rattle.tb_pool.specs.Lists.{Lists, list_at}
use Rattle.tb_node.specs.declared.Node.{Node}
use Rattle.tb_param.specs.declared.Rule.{Rule}
use Rattle.tb_column.specs.declared.NoteBox.{NoteBox}
use Rattle.tb_column.specs.Page.{IsPageList}
use Rattle.tb_column.specs.Ranges.{IsSizedGlue, IsSizedRule}
use Rattle.tb_column.specs.Notes.{note_count, AreNotes}
use Rattle.tb_column.specs.ColumnChanges.{IsOpened}
use Rattle.tb_column.proofs.StoreLemmas.{list-get}
use Rattle.tb_column.proofs.GatherLemmas.{page-get}
use Rattle.tb_float_tests.proofs.column.insertions_of_two_classes_stand_under_a_text.Goals as goal

-- a list that lives is another than one that is opened
apart : (old now : Lists Node) (l q : ℕ) → IsOpened l old now → IsPageList old q → q ≢ l
apart old now l q opened page e = true≢false (sym page.live ∙ ap (λ (k : ℕ). is_some (get old.lists k)) e ∙ ap (λ (o : Option (List Node)). is_some o) opened.fresh)

-- three lists of two nodes were opened, one after another
module _ (s1 s2 s3 : Lists Node) (a b d : ℕ) (first : IsPageList s1 a) (one : length (list_at s1 a) ≡ 2) (after_first : IsOpened b s1 s2) (second : IsPageList s2 b) (two : length (list_at s2 b) ≡ 2)
    (after_second : IsOpened d s2 s3) (third : IsPageList s3 d) (three : length (list_at s3 d) ≡ 2) where
  first-between : IsPageList s2 a
  first-between = page-get s1 s2 a (after_first.others a (apart s1 s2 b a after_first first)) first

  first-page : IsPageList s3 a
  first-page = page-get s2 s3 a (after_second.others a (apart s2 s3 d a after_second first-between)) first-between

  second-page : IsPageList s3 b
  second-page = page-get s2 s3 b (after_second.others b (apart s2 s3 d b after_second second)) second

  first-two : length (list_at s3 a) ≡ 2
  first-two =
      ap length (list-get s2 s3 a (after_second.others a (apart s2 s3 d a after_second first-between)))
      ∙ ap length (list-get s1 s2 a (after_first.others a (apart s1 s2 b a after_first first)))
      ∙ one

  second-two : length (list_at s3 b) ≡ 2
  second-two = ap length (list-get s2 s3 b (after_second.others b (apart s2 s3 d b after_second second))) ∙ two

  module _ (m n : NoteBox) (at_m : m.list ≡ b) (at_n : n.list ≡ d) where
    notes-few : length (list_at s3 a) + note_count s3 (m ∷ n ∷ []) ≤ 8355840
    notes-few = omega (arith, first-two, second-two, three, ap (λ (q : ℕ). length (list_at s3 q)) at_m, ap (λ (q : ℕ). length (list_at s3 q)) at_n)

    no-rule : (b : Option (Option Rule)) → b ≡ None → IsSizedRule (unwrap_or b None)
    no-rule b e = subst (λ (o : Option (Option Rule)). IsSizedRule (unwrap_or o None)) (sym e) tt

    two-notes : m.class ≡ 3 → n.class ≡ 254 → m.below ≡ None → n.below ≡ None → IsSizedGlue m.skip → IsSizedGlue n.skip → AreNotes s3 a (m ∷ n ∷ [])
    two-notes low high bare_m bare_n above below = record {
      rising = (omega (arith, low), (omega (arith, low, high), tt));
      apart = (
        ((λ e. apart s1 s2 b a after_first first (sym e ∙ at_m)), ((λ e. apart s2 s3 d a after_second first-between (sym e ∙ at_n)), tt)),
        (((λ e. apart s2 s3 d b after_second second (sym at_m ∙ sym e ∙ at_n)), tt), (tt, tt)),
      );
      each = (
        record { list = subst (IsPageList s3) (sym at_m) second-page; rule = no-rule m.below bare_m; skip = above },
        (record { list = subst (IsPageList s3) (sym at_n) third; rule = no-rule n.below bare_n; skip = below }, tt),
      );
    }

pub make_column-requires-clause-body : goal.make_column-requires-clause-body
make_column-requires-clause-body g c =
    first-page c.list_of.new.store c.list_of-2.new.store c.list_of-3.new.store c.in_ok-body.body c.in_ok-third.third c.in_ok-feet.feet c.in_ok-body.ensures.page c.in_ok-body.ensures.two
    c.in_ok-third.ensures.opened c.in_ok-third.ensures.page c.in_ok-third.ensures.two c.in_ok-feet.ensures.opened c.in_ok-feet.ensures.page c.in_ok-feet.ensures.two

pub make_column-requires-clause-notes : goal.make_column-requires-clause-notes
make_column-requires-clause-notes g c =
    two-notes c.list_of.new.store c.list_of-2.new.store c.list_of-3.new.store c.in_ok-body.body c.in_ok-third.third c.in_ok-feet.feet c.in_ok-body.ensures.page c.in_ok-body.ensures.two
    c.in_ok-third.ensures.opened c.in_ok-third.ensures.page c.in_ok-third.ensures.two c.in_ok-feet.ensures.opened c.in_ok-feet.ensures.page c.in_ok-feet.ensures.two
    c.note_box.result c.note_box-2.result c.note_box.ensures.list c.note_box-2.ensures.list c.note_box.ensures.class c.note_box-2.ensures.class c.note_box.ensures.below c.note_box-2.ensures.below c.note_box.ensures.skip c.note_box-2.ensures.skip

pub make_column-requires-clause-few : goal.make_column-requires-clause-few
make_column-requires-clause-few g c =
    notes-few c.list_of.new.store c.list_of-2.new.store c.list_of-3.new.store c.in_ok-body.body c.in_ok-third.third c.in_ok-feet.feet c.in_ok-body.ensures.page c.in_ok-body.ensures.two
    c.in_ok-third.ensures.opened c.in_ok-third.ensures.page c.in_ok-third.ensures.two c.in_ok-feet.ensures.opened c.in_ok-feet.ensures.page c.in_ok-feet.ensures.two
    c.note_box.result c.note_box-2.result c.note_box.ensures.list c.note_box-2.ensures.list
