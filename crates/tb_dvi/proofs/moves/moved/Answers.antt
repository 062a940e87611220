use Rattle.std.proofs.Common.{◌≡◌, ◌∙◌, ap, sym, subst, ◌+ℤ◌, take, FitsSigned, w64, rules}
use Rattle.std.proofs.lemmas.Int.{to_z-of_z}
use Rattle.tb_dvi.specs.Machine.{signed_number, moved}
use Rattle.tb_dvi.proofs.BoundLemmas.{bounded-right, bounded-down, bounded-w, bounded-x, bounded-y, bounded-z, within-kept, bounded-kept}
use Rattle.tb_dvi.proofs.moves.moved.Goals as goal

pub returns-in-Right-clause-bounded : goal.returns-in-Right-clause-bounded
returns-in-Right-clause-bounded c = λ k b.
    let place = c.place_after-h.ensures.within k (within-kept k c.args.r.h (search rules) b.h) in
    let past = bounded-right k c.args.r c.place_after-h.result b place in
    search (rules, bounded-kept, past)

pub returns-in-W-clause-bounded : goal.returns-in-W-clause-bounded
returns-in-W-clause-bounded c = λ k b.
    let place = c.place_after-h-in-W.ensures.within k (within-kept k c.args.r.h (search rules) b.h) in
    let past = bounded-right k (record c.args.r { w = c.set_register-w.result }) c.place_after-h-in-W.result (bounded-w k c.args.r c.set_register-w.result b c.set_register-w.ensures.within) place in
    search (rules, bounded-kept, past)

pub returns-in-X-clause-bounded : goal.returns-in-X-clause-bounded
returns-in-X-clause-bounded c = λ k b.
    let place = c.place_after-h-in-X.ensures.within k (within-kept k c.args.r.h (search rules) b.h) in
    let past = bounded-right k (record c.args.r { x = c.set_register-x.result }) c.place_after-h-in-X.result (bounded-x k c.args.r c.set_register-x.result b c.set_register-x.ensures.within) place in
    search (rules, bounded-kept, past)

pub returns-in-Down-clause-bounded : goal.returns-in-Down-clause-bounded
returns-in-Down-clause-bounded c = λ k b.
    let place = c.place_after-v.ensures.within k (within-kept k c.args.r.v (search rules) b.v) in
    let past = bounded-down k c.args.r c.place_after-v.result b place in
    search (rules, bounded-kept, past)

pub returns-in-Y-clause-bounded : goal.returns-in-Y-clause-bounded
returns-in-Y-clause-bounded c = λ k b.
    let place = c.place_after-v-in-Y.ensures.within k (within-kept k c.args.r.v (search rules) b.v) in
    let past = bounded-down k (record c.args.r { y = c.set_register-y.result }) c.place_after-v-in-Y.result (bounded-y k c.args.r c.set_register-y.result b c.set_register-y.ensures.within) place in
    search (rules, bounded-kept, past)

pub returns-in-Z-clause-bounded : goal.returns-in-Z-clause-bounded
returns-in-Z-clause-bounded c = λ k b.
    let place = c.place_after-v-in-Z.ensures.within k (within-kept k c.args.r.v (search rules) b.v) in
    let past = bounded-down k (record c.args.r { z = c.set_register-z.result }) c.place_after-v-in-Z.result (bounded-z k c.args.r c.set_register-z.result b c.set_register-z.ensures.within) place in
    search (rules, bounded-kept, past)

pub returns-in-Right-clause-value : goal.returns-in-Right-clause-value
returns-in-Right-clause-value c =
    let r = c.args.r in
    let fh : FitsSigned w64 c.args.r.h = search rules in
    let fv : FitsSigned w64 c.args.r.v = search rules in
    let fw : FitsSigned w64 c.args.r.w = search rules in
    let fx : FitsSigned w64 c.args.r.x = search rules in
    let fy : FitsSigned w64 c.args.r.y = search rules in
    let fz : FitsSigned w64 c.args.r.z = search rules in
    let by : FitsSigned w64 c.signed_number.result = search rules in
    let new : FitsSigned w64 c.place_after-h.result = search rules in
    let place = simp to_z-of_z at c.place_after-h.ensures.value in
    let number = c.signed_number.ensures.value ∙ ap (λ n. signed_number (take n c.args.args.now)) c.from.ensures in
    simp to_z-of_z (subst (λ s. record r { h = c.place_after-h.result } ≡ moved s c.args.size c.args.args.now r) (sym c.in-Right.is) (λ i. record r { h = (place ∙ ap (λ z. r.h +ℤ z) number) i }))

pub returns-in-W-clause-value : goal.returns-in-W-clause-value
returns-in-W-clause-value c =
    let r = c.args.r in
    let fh : FitsSigned w64 c.args.r.h = search rules in
    let fv : FitsSigned w64 c.args.r.v = search rules in
    let fw : FitsSigned w64 c.args.r.w = search rules in
    let fx : FitsSigned w64 c.args.r.x = search rules in
    let fy : FitsSigned w64 c.args.r.y = search rules in
    let fz : FitsSigned w64 c.args.r.z = search rules in
    let by : FitsSigned w64 c.set_register-w.result = search rules in
    let new : FitsSigned w64 c.place_after-h-in-W.result = search rules in
    let place = simp to_z-of_z at c.place_after-h-in-W.ensures.value in
    let number = simp to_z-of_z at c.set_register-w.ensures.value in
    simp to_z-of_z (subst (λ s. record r { h = c.place_after-h-in-W.result; w = c.set_register-w.result } ≡ moved s c.args.size c.args.args.now r) (sym c.in-W.is) (λ i. record r { h = (place ∙ ap (λ z. r.h +ℤ z) number) i; w = number i }))

pub returns-in-X-clause-value : goal.returns-in-X-clause-value
returns-in-X-clause-value c =
    let r = c.args.r in
    let fh : FitsSigned w64 c.args.r.h = search rules in
    let fv : FitsSigned w64 c.args.r.v = search rules in
    let fw : FitsSigned w64 c.args.r.w = search rules in
    let fx : FitsSigned w64 c.args.r.x = search rules in
    let fy : FitsSigned w64 c.args.r.y = search rules in
    let fz : FitsSigned w64 c.args.r.z = search rules in
    let by : FitsSigned w64 c.set_register-x.result = search rules in
    let new : FitsSigned w64 c.place_after-h-in-X.result = search rules in
    let place = simp to_z-of_z at c.place_after-h-in-X.ensures.value in
    let number = simp to_z-of_z at c.set_register-x.ensures.value in
    simp to_z-of_z (subst (λ s. record r { h = c.place_after-h-in-X.result; x = c.set_register-x.result } ≡ moved s c.args.size c.args.args.now r) (sym c.in-X.is) (λ i. record r { h = (place ∙ ap (λ z. r.h +ℤ z) number) i; x = number i }))

pub returns-in-Down-clause-value : goal.returns-in-Down-clause-value
returns-in-Down-clause-value c =
    let r = c.args.r in
    let fh : FitsSigned w64 c.args.r.h = search rules in
    let fv : FitsSigned w64 c.args.r.v = search rules in
    let fw : FitsSigned w64 c.args.r.w = search rules in
    let fx : FitsSigned w64 c.args.r.x = search rules in
    let fy : FitsSigned w64 c.args.r.y = search rules in
    let fz : FitsSigned w64 c.args.r.z = search rules in
    let by : FitsSigned w64 c.signed_number-in-Down.result = search rules in
    let new : FitsSigned w64 c.place_after-v.result = search rules in
    let place = simp to_z-of_z at c.place_after-v.ensures.value in
    let number = c.signed_number-in-Down.ensures.value ∙ ap (λ n. signed_number (take n c.args.args.now)) c.from-in-Down.ensures in
    simp to_z-of_z (subst (λ s. record r { v = c.place_after-v.result } ≡ moved s c.args.size c.args.args.now r) (sym c.in-Down.is) (λ i. record r { v = (place ∙ ap (λ z. r.v +ℤ z) number) i }))

pub returns-in-Y-clause-value : goal.returns-in-Y-clause-value
returns-in-Y-clause-value c =
    let r = c.args.r in
    let fh : FitsSigned w64 c.args.r.h = search rules in
    let fv : FitsSigned w64 c.args.r.v = search rules in
    let fw : FitsSigned w64 c.args.r.w = search rules in
    let fx : FitsSigned w64 c.args.r.x = search rules in
    let fy : FitsSigned w64 c.args.r.y = search rules in
    let fz : FitsSigned w64 c.args.r.z = search rules in
    let by : FitsSigned w64 c.set_register-y.result = search rules in
    let new : FitsSigned w64 c.place_after-v-in-Y.result = search rules in
    let place = simp to_z-of_z at c.place_after-v-in-Y.ensures.value in
    let number = simp to_z-of_z at c.set_register-y.ensures.value in
    simp to_z-of_z (subst (λ s. record r { v = c.place_after-v-in-Y.result; y = c.set_register-y.result } ≡ moved s c.args.size c.args.args.now r) (sym c.in-Y.is) (λ i. record r { v = (place ∙ ap (λ z. r.v +ℤ z) number) i; y = number i }))

pub returns-in-Z-clause-value : goal.returns-in-Z-clause-value
returns-in-Z-clause-value c =
    let r = c.args.r in
    let fh : FitsSigned w64 c.args.r.h = search rules in
    let fv : FitsSigned w64 c.args.r.v = search rules in
    let fw : FitsSigned w64 c.args.r.w = search rules in
    let fx : FitsSigned w64 c.args.r.x = search rules in
    let fy : FitsSigned w64 c.args.r.y = search rules in
    let fz : FitsSigned w64 c.args.r.z = search rules in
    let by : FitsSigned w64 c.set_register-z.result = search rules in
    let new : FitsSigned w64 c.place_after-v-in-Z.result = search rules in
    let place = simp to_z-of_z at c.place_after-v-in-Z.ensures.value in
    let number = simp to_z-of_z at c.set_register-z.ensures.value in
    simp to_z-of_z (subst (λ s. record r { v = c.place_after-v-in-Z.result; z = c.set_register-z.result } ≡ moved s c.args.size c.args.args.now r) (sym c.in-Z.is) (λ i. record r { v = (place ∙ ap (λ z. r.v +ℤ z) number) i; z = number i }))
