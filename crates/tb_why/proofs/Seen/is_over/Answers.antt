use Rattle.std.proofs.Common.{◌≡◌, ◌≤◌, Bool, false, ap, ◌∙◌, sym, FitsSigned, w64, rules, arith}
use Rattle.std.specs.Prelude.{ℕ, ℤ, pos, ◌≤ℤ◌, ◌||◌, int_lt}
use Rattle.std.proofs.lemmas.Int.{to_z-of_z, ints}
use Rattle.tb_why.specs.Seen.{Seen, is_last}
use Rattle.tb_why.proofs.Seen.is_over.Goals as goal

-- a page that is not beyond the limit has a small number
below : (limit : ℤ) (n : ℕ) → limit ≤ℤ pos 4194304 → int_lt limit (pos n) ≡ false → n ≤ 4194304
below limit n small e = grind (arith, ints)

pub returns-else-self-clause-over : goal.returns-else-self-clause-over
returns-else-self-clause-over c =
    let p = c.args.p.now in
    let fits : FitsSigned w64 p.maxpages = search (rules, ints, c.requires.maxpages) in
    let last : c.exceeds.result ≡ int_lt p.maxpages (pos c.self.inside.page) = simp to_z-of_z at c.exceeds.ensures in
    last ∙ ap (λ (b : Bool). b || int_lt p.maxpages (pos c.self.inside.page)) (sym c.if-self.false) ∙ ap (λ (v : Seen). v.over || is_last p v) c.self.view_is

pub returns-else-self-clause-few : goal.returns-else-self-clause-few
returns-else-self-clause-few c = λ not_over.
    let p = c.args.p.now in
    let fits : FitsSigned w64 p.maxpages = search (rules, ints, c.requires.maxpages) in
    let last : c.exceeds.result ≡ int_lt p.maxpages (pos c.self.inside.page) = simp to_z-of_z at c.exceeds.ensures in
    rw (← c.self.view_is) (below p.maxpages c.self.inside.page c.requires.maxpages.high (sym last ∙ not_over))
