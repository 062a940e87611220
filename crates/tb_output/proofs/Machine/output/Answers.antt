use Rattle.std.proofs.Common.{◌≡◌, sym, subst, ◌∙◌, true, false, FitsSigned, w64, rules, arith}
use Rattle.std.specs.Prelude.{ℤ, ◌<ℤ◌, ◌≤ℤ◌}
use Rattle.std.proofs.lemmas.Int.{to_z-of_z, ints}
use Rattle.tb_sheet.specs.Asked.{hold_penalty}
use Rattle.tb_output.specs.Output.{is_int}
use Rattle.tb_output.specs.Notes.{NotesTaken}
use Rattle.tb_output.proofs.Firings.GoalLemmas.{int-is}
use Rattle.tb_output.proofs.Firings.OutputLemmas.{held-alone, held-serving, held-all, middle-shown, middle-back, middle-empty, untaken-cut, untaken-serving, page-few, page-lists, page-serving, page-contents, page-all, page-cut}
use Rattle.tb_output.proofs.FiringWork.ResultLemmas.{memory-err, ok-map, err-map}
use Rattle.tb_output.proofs.Machine.output.Goals.{After-as_slice}
use Rattle.tb_output.proofs.Machine.output.Goals as goal

-- a page that is not held has a higher penalty
above-hold : (n : ℤ) → hold_penalty ≤ℤ n → is_int n hold_penalty ≡ false → hold_penalty <ℤ n
above-hold n low e = let differ : n ≡ hold_penalty → ⊥ = λ same. (let both : false ≡ true = sym e ∙ int-is n hold_penalty same in cc) in grind (arith, ints, low, differ)

-- the insertions of the page are taken
taken : (c : After-as_slice) → NotesTaken c.args.self.now.classes c.as_slice.result.now c.args.b.now c.take_notes.new.b c.args.store.now c.take_notes.new.store
taken c = subst (λ ns. NotesTaken c.args.self.now.classes ns c.args.b.now c.take_notes.new.b c.args.store.now c.take_notes.new.store) (sym c.as_slice.ensures) c.in_ok-take_notes.ensures.taken

-- the page is not held
above : (c : After-as_slice) → hold_penalty <ℤ c.args.page.now.penalty
above c =
    let fits : FitsSigned w64 c.args.page.now.penalty = search rules in
    above-hold _ c.requires.page.penalty (sym (simp to_z-of_z at c.is_signal.ensures) ∙ c.if-is_signal.false)

pub returns-then-is_signal-clause-ok : goal.returns-then-is_signal-clause-ok
returns-then-is_signal-clause-ok c =
    let fits : FitsSigned w64 c.args.page.now.penalty = search rules in
    let held : is_int c.args.page.now.penalty hold_penalty ≡ true = sym (simp to_z-of_z at c.is_signal.ensures) ∙ c.if-is_signal.true in
    held-all _ _ _ _ _ c.requires.machine c.requires.builder c.requires.page c.requires.back c.requires.empty c.requires.back_body c.requires.back_free _ _ c.hold.ensures.keeps held c.hold.ensures.done

pub returns-then-is_signal-clause-contents : goal.returns-then-is_signal-clause-contents
returns-then-is_signal-clause-contents c = held-alone _ _ _ _ _ c.requires.machine c.requires.builder c.requires.page c.requires.back c.requires.empty c.requires.back_body c.requires.back_free _ _ c.hold.ensures.keeps

pub returns-then-is_signal-clause-keeps : goal.returns-then-is_signal-clause-keeps
returns-then-is_signal-clause-keeps c = held-serving _ _ _ _ _ c.requires.machine c.requires.builder c.requires.page c.requires.back c.requires.empty c.requires.back_body c.requires.back_free _ _ c.hold.ensures.keeps

pub take_notes-requires-clause-few : goal.take_notes-requires-clause-few
take_notes-requires-clause-few c = let few = c.requires.page.few in omega (arith, few)

pub returns-in_err-take_notes-clause-err : goal.returns-in_err-take_notes-clause-err
returns-in_err-take_notes-clause-err c =
    memory-err c.from_residual.result _ c.from_residual.ensures.1
    (untaken-cut _ _ _ _ _ c.requires.machine c.requires.builder c.requires.page c.requires.back c.requires.empty c.requires.back_body c.requires.back_free _ _ c.take_notes.ensures.sound c.take_notes.ensures.frame)

pub returns-in_err-take_notes-clause-keeps : goal.returns-in_err-take_notes-clause-keeps
returns-in_err-take_notes-clause-keeps c = untaken-serving _ _ _ _ _ c.requires.machine c.requires.builder c.requires.page c.requires.back c.requires.empty c.requires.back_body c.requires.back_free _ _ c.take_notes.ensures.sound c.take_notes.ensures.frame

pub output_page-requires : goal.output_page-requires
output_page-requires c =
    let w = (goal.at.output_page-requires c).After-as_slice in
    record {
      machine = (middle-shown _ _ _ _ _ c.requires.machine c.requires.builder c.requires.page c.requires.back c.requires.empty c.requires.back_body c.requires.back_free _ _ c.take_notes.ensures.sound c.take_notes.ensures.frame).machine;
      back = middle-back _ _ _ _ _ c.requires.machine c.requires.builder c.requires.page c.requires.back c.requires.empty c.requires.back_body c.requires.back_free _ _ c.take_notes.ensures.sound c.take_notes.ensures.frame;
      empty = middle-empty _ _ _ _ _ c.requires.machine c.requires.builder c.requires.page c.requires.back c.requires.empty c.requires.back_body c.requires.back_free _ _ c.take_notes.ensures.sound c.take_notes.ensures.frame;
      note_bottom = c.requires.page.note_bottom;
      lists = page-lists _ _ _ _ _ c.requires.machine c.requires.builder c.requires.page c.requires.back c.requires.empty c.requires.back_body c.requires.back_free _ _ c.take_notes.ensures.sound c.take_notes.ensures.frame _ (taken w);
      known = (taken w).known;
      few = page-few _ _ _ _ _ c.requires.machine c.requires.builder c.requires.page c.requires.back c.requires.empty c.requires.back_body c.requires.back_free _ _ c.take_notes.ensures.sound c.take_notes.ensures.frame _ (taken w);
      penalty = above w;
    }

pub returns-clause-ok : goal.returns-clause-ok
returns-clause-ok c =
    let w = (goal.at.returns-clause-ok c).After-as_slice in
    ok-map c.output_page.result _ _
    (page-all _ _ _ _ _ c.requires.machine c.requires.builder c.requires.page c.requires.back c.requires.empty c.requires.back_body c.requires.back_free _ _ c.take_notes.ensures.sound c.take_notes.ensures.frame _ (taken w) _ _ c.output_page.ensures.keeps (above w))
    c.output_page.ensures.ok

pub returns-clause-err : goal.returns-clause-err
returns-clause-err c =
    let w = (goal.at.returns-clause-err c).After-as_slice in
    err-map c.output_page.result _ _
    (λ e. page-cut _ _ _ _ _ c.requires.machine c.requires.builder c.requires.page c.requires.back c.requires.empty c.requires.back_body c.requires.back_free _ _ c.take_notes.ensures.sound c.take_notes.ensures.frame _ (taken w) _ _ c.output_page.ensures.keeps e (above w))
    c.output_page.ensures.err

pub returns-clause-contents : goal.returns-clause-contents
returns-clause-contents c =
    let w = (goal.at.returns-clause-contents c).After-as_slice in
    ok-map c.output_page.result _ _
    (λ done. page-contents _ _ _ _ _ c.requires.machine c.requires.builder c.requires.page c.requires.back c.requires.empty c.requires.back_body c.requires.back_free _ _ c.take_notes.ensures.sound c.take_notes.ensures.frame _ (taken w) _ _ c.output_page.ensures.keeps)
    c.output_page.ensures.ok

pub returns-clause-keeps : goal.returns-clause-keeps
returns-clause-keeps c =
    let w = (goal.at.returns-clause-keeps c).After-as_slice in
    page-serving _ _ _ _ _ c.requires.machine c.requires.builder c.requires.page c.requires.back c.requires.empty c.requires.back_body c.requires.back_free _ _ c.take_notes.ensures.sound c.take_notes.ensures.frame _ (taken w) _ _ c.output_page.ensures.keeps
