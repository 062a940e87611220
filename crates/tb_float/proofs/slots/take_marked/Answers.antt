use Rattle.std.proofs.Common.{◌≡◌, ◌≤◌, [], ◌++◌, length, drop, sym, ap, arith, ◌∙◌}
use Rattle.std.specs.FinMap.{insert}
use Rattle.tb_pool.specs.Lists.{Lists, list_at, with_list}
use Rattle.tb_pool.proofs.MapLemmas.{list_steps}
use Rattle.std.proofs.lemmas.List.{length-map}
use Rattle.tb_float.specs.Slots.{SlotView}
use Rattle.tb_float.specs.Pool.{first_marked}
use Rattle.tb_float.specs.Shelves.{HasTaken, marks_in}
use Rattle.tb_float.proofs.MoveLemmas.{restored}
use Rattle.tb_float.proofs.PlaceLemmas.{none-behind, none-cut, taken-behind, some-again, none-again}
use Rattle.tb_float.proofs.slots.take_marked.Goals as goal

pub append-requires-clause-first_live : goal.append-requires-clause-first_live
append-requires-clause-first_live c = c.take_first_marked-taken.ensures.lists_live c.args.from (grind (arith, list_steps))

pub append-requires-clause-second_live : goal.append-requires-clause-second_live
append-requires-clause-second_live c = c.take_first_marked-taken.ensures.lists_live c.args.one (grind (arith, list_steps))

pub returns : goal.returns
returns c =
    let r = c.requires in
    let s0 = c.args.store.now in
    let s1 = c.cut.new.self in
    let s2 = c.take_first_marked-taken.new.store in
    let s3 = c.append.new.self in
    let from = c.args.from in
    let one = c.args.one in
    let marks_from = c.args.marks_from in
    let ss = list_at s0 from in
    let taken = c.take_first_marked-taken.result in
    let said = c.take_first_marked-taken.ensures in
    let behind : list_at s1 one ≡ drop marks_from ss = grind (arith, list_steps) in
    let le : marks_from ≤ length ss = omega (arith, c.len.ensures, c.if-len-marks_from.false) in
    let back = restored s0 s1 s3 from marks_from one r.differ.0 r.from_live r.one_live r.one_empty c.cut.ensures.parted in
    record {
      taken = some-again (λ s. HasTaken s one s1 s2) (λ s. HasTaken s from s0 s3) taken said.taken
          (λ s t. taken-behind s0 s1 s2 s3 from marks_from one s r.differ.0 r.one_live r.one_empty r.marks_from le c.cut.ensures.parted behind c.append.ensures.joined c.cut.ensures.spare c.append.ensures.spare t);
      none = none-again (first_marked (marks_in (list_at s1 one)) ≡ length (list_at s1 one)) (first_marked (marks_in ss) ≡ length ss) taken said.none
          (λ e. none-cut marks_from ss r.marks_from le (ap (λ ts. first_marked (marks_in ts)) (sym behind) ∙ e ∙ ap length behind));
      unchanged = none-again (s2 ≡ s1) (s3 ≡ s0) taken said.unchanged
          (λ e. let lists = back (c.append.ensures.joined ∙ ap (λ (s : Lists SlotView). insert (with_list s from (list_at s from ++ list_at s one)) one []) e) in
          let spare : s3.spare ≡ s0.spare = c.append.ensures.spare ∙ ap (λ (s : Lists SlotView). s.spare) e ∙ c.cut.ensures.spare in
          λ i. record { lists = lists i; spare = spare i });
    }

pub returns-then-len-marks_from-clause-none : goal.returns-then-len-marks_from-clause-none
returns-then-len-marks_from-clause-none c =
    let ss = list_at c.args.store.now c.args.from in
    let many = length-map ss (λ s. s.marked) in
    none-behind c.args.marks_from (marks_in ss) c.requires.marks_from (omega (arith, c.len.ensures, c.if-len-marks_from.true, many)) ∙ many
