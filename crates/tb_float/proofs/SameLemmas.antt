-- Two pools whose lists have the same entries.
use Rattle.std.proofs.Common.{◌≡◌, List, [], ◌∷◌, length, refl, ap, sym, ◌∙◌}
use Rattle.std.proofs.lemmas.List.{length-map}
use Rattle.tb_node.specs.declared.Float.{Float}
use Rattle.tb_float.specs.declared.Entry.TheVariants as entries
use Rattle.tb_float.specs.declared.Part.{Part}
use Rattle.tb_float.specs.declared.Part.TheVariants as parts
use Rattle.tb_float.specs.Same.{HaveSame}
use Rattle.tb_float.specs.Lists.{FloatLists, entries_of, entry_count, floats_of, float_entries, floats_among}

-- a list has as many entries as are counted
pub count_of-entries : (p : Part) (l : FloatLists) → entry_count p l ≡ length (entries_of p l)
count_of-entries parts.Current l = refl
count_of-entries p l = sym (length-map (floats_of p l) (λ f. entries.Float f))

-- the floats among the entries of floats are those floats
floats_again : (fs : List Float) → floats_among (float_entries fs) ≡ fs
floats_again [] = refl
floats_again (f ∷ fs) = ap (λ gs. f ∷ gs) (floats_again fs)

-- floats are the same if their entries are
pub same_floats : (fs gs : List Float) → float_entries fs ≡ float_entries gs → fs ≡ gs
same_floats fs gs e = sym (floats_again fs) ∙ ap floats_among e ∙ floats_again gs

-- all lists are the same if the entries of each are
pub same_lists : (l m : FloatLists) → HaveSame l m (parts.Deferred ∷ parts.Second ∷ parts.Current ∷ []) → HaveSame l m (parts.Top ∷ parts.Bottom ∷ parts.Here ∷ parts.Double ∷ []) → l ≡ m
same_lists l m w a = λ i. record {
  current = w.1.1.0 i;
  here = same_floats l.here m.here a.1.1.0 i;
  top = same_floats l.top m.top a.0 i;
  bottom = same_floats l.bottom m.bottom a.1.0 i;
  deferred = same_floats l.deferred m.deferred w.0 i;
  double = same_floats l.double m.double a.1.1.1.0 i;
  second = same_floats l.second m.second w.1.0 i;
}

-- each list has the same entries in pools that are the same
pub have_same : (l m : FloatLists) (ps : List Part) → l ≡ m → HaveSame l m ps
have_same l m [] e = tt
have_same l m (p ∷ ps) e = (ap (entries_of p) e, have_same l m ps e)
