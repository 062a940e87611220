-- The badness of a page by what is missing to its goal.
use Rattle.std.proofs.Common.{◌≡◌, refl, sym, ℤ, pos, Bool, true, false, arith}
use Rattle.std.specs.Prelude.{◌-ℤ◌, int_lt, if◌then◌else◌}
use Rattle.std.proofs.lemmas.Int.{ints}
use Rattle.tb_scaled.specs.Scaled.{badness_of, awful_bad}
use Rattle.tb_node.specs.declared.Sums.{Sums}
use Rattle.tb_break.specs.Cost.{page_badness, stretches_infinitely, finite_stretch}

is_under : (t g : ℤ) → int_lt (pos 0) (g -ℤ t) ≡ true → int_lt t g ≡ true
is_under t g h = grind (arith, ints)

is_over : (t g : ℤ) → int_lt (pos 0) (g -ℤ t) ≡ false → int_lt t g ≡ false
is_over t g h = grind (arith, ints)

-- the badness by what the three tests say
abbrev by_tests : (s : Sums) (g : ℤ) (t u v : Bool) → ℤ
by_tests s g t u v = if t then (if u then pos 0 else badness_of (g -ℤ s.total) (finite_stretch s.stretch)) else (if v then awful_bad else badness_of (s.total -ℤ g) s.shrink)

-- the same, once the tests are known
opened : (s : Sums) (g : ℤ) (t u v : Bool) → int_lt s.total g ≡ t → stretches_infinitely s.stretch ≡ u → int_lt s.shrink (s.total -ℤ g) ≡ v → page_badness s g ≡ by_tests s g t u v
unfolding page_badness
opened s g t u v e f h = λ j. by_tests s g (e j) (f j) (h j)

-- nothing stretches infinitely: the badness is that of the finite stretch
pub under_badness : (s : Sums) (g : ℤ) → int_lt (pos 0) (g -ℤ s.total) ≡ true → stretches_infinitely s.stretch ≡ false → badness_of (g -ℤ s.total) (finite_stretch s.stretch) ≡ page_badness s g
under_badness s g h i = sym (opened s g true false (int_lt s.shrink (s.total -ℤ g)) (is_under s.total g h) i refl)

-- what is too much is more than the shrink
pub over_awful : (s : Sums) (g : ℤ) → int_lt (pos 0) (g -ℤ s.total) ≡ false → int_lt s.shrink (s.total -ℤ g) ≡ true → awful_bad ≡ page_badness s g
over_awful s g h i = sym (opened s g false (stretches_infinitely s.stretch) true (is_over s.total g h) refl i)

-- the shrink takes what is too much
pub over_badness : (s : Sums) (g : ℤ) → int_lt (pos 0) (g -ℤ s.total) ≡ false → int_lt s.shrink (s.total -ℤ g) ≡ false → badness_of (s.total -ℤ g) s.shrink ≡ page_badness s g
over_badness s g h i = sym (opened s g false (stretches_infinitely s.stretch) false (is_over s.total g h) refl i)
