use Rattle.std.proofs.Common.{◌≡◌, ◌∙◌, Bool, true, false, ℕ, List, Option, Some, None, sym}
use Rattle.std.specs.Prelude.{if◌then◌else◌}
use Rattle.tb_generator.proofs.sure_name.Goals as goal

some-name : (t : Bool) (bytes : List ℕ) (o : Option (List ℕ)) → t ≡ true → o ≡ (if t then Some bytes else None) → o ≡ None → ⊥
some-name true bytes o e is none = let no : Some bytes ≡ None = sym is ∙ none in cc
some-name false bytes o e is none = cc

the-name : (t : Bool) (bytes name : List ℕ) (o : Option (List ℕ)) → t ≡ true → o ≡ (if t then Some bytes else None) → o ≡ Some name → name ≡ bytes
the-name true bytes name o e is found = let same : Some bytes ≡ Some name = sym is ∙ found in cc
the-name false bytes name o e is found = cc

pub returns : goal.returns
returns c = the-name _ _ c.in-Some.name c.name_of.result c.requires c.name_of.ensures c.in-Some.is
