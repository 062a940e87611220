use Rattle.std.proofs.Common.{◌≡◌, ◌∙◌, ap, subst, sym, ◌++◌, [], ℤ, FitsSigned, w32, false, ◌||◌, append-nil, rules}
use Rattle.std.proofs.lemmas.Int.{to_z-of_z}
use Rattle.std.proofs.lemmas.Result.{err_from_is_err_and}
use Rattle.tb_text.specs.Fronts.{PutsFront}
use Rattle.tb_dvi.specs.File.{placement_bytes}
use Rattle.tb_dvi.proofs.JoinedTexts.{near-some}
use Rattle.tb_dvi.proofs.placement.put_placed.Goals as goal

pub returns : goal.returns
returns c = λ place e.
    let h : FitsSigned w32 c.args.h = c.ranges.h in
    let v : FitsSigned w32 c.in-Some.v = search rules in
    let found = near-some c.in-Some.v place (sym c.in-Some.is ∙ e) in
    let text = λ (z : ℤ). placement_bytes (record { h = c.args.h; v = z; label = c.args.label.now; rule = c.args.rule }) in
    let whole : text c.in-Some.v ≡ text place ++ [] = ap text found.0 ∙ sym (append-nil (text place)) in
    let put = simp to_z-of_z at c.in_ok-put_placement.ensures in
    (put ∙ ap (λ t. c.args.out.now.items ++ t) whole, ap (λ f. f || false) found.1)

pub returns-in_err-put_placement : goal.returns-in_err-put_placement
returns-in_err-put_placement c = λ place e.
    let h : FitsSigned w32 c.args.h = c.ranges.h in
    let v : FitsSigned w32 c.in-Some.v = search rules in
    let found = near-some c.in-Some.v place (sym c.in-Some.is ∙ e) in
    let text = λ (z : ℤ). placement_bytes (record { h = c.args.h; v = z; label = c.args.label.now; rule = c.args.rule }) in
    let whole : text c.in-Some.v ≡ text place ++ [] = ap text found.0 ∙ sym (append-nil (text place)) in
    let put = simp to_z-of_z at c.in_err-put_placement.ensures in
    let p = err_from_is_err_and c.from_residual.result c.from_residual.ensures.1 in
    rw (p.1, p.2) (subst (λ t. PutsFront c.args.out.now.items t c.put_placement.new.out.items) whole put)
