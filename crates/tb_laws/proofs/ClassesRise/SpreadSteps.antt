-- A record, a column and floats that leave the lists where they wait keep the order of a class.
use Rattle.std.proofs.Common.{◌≡◌, refl, sym, ◌∙◌, ap, subst, ℕ, Bool, true, false, List, [], ◌∷◌, ◌++◌, Option, Some, None, append_assoc}
use Rattle.std.specs.List.{AllByRecursion}
use Rattle.std.proofs.lemmas.Bool.{both_ways}
use Rattle.tb_break.proofs.EachLemmas.{all-front, all-back, all-join}
use Rattle.tb_node.specs.declared.Float.{Float}
use Rattle.tb_param.specs.declared.Params.{Params}
use Rattle.tb_float.specs.declared.Part.{Part}
use Rattle.tb_float.specs.declared.Part.TheVariants as parts
use Rattle.tb_float.specs.Lists.{FloatLists, floats_among, IsWaiting, floats_of, with_floats_of}
use Rattle.tb_area.specs.Deferred.{doubled}
use Rattle.tb_float.specs.declared.Suppress.{Suppress}
use Rattle.tb_fpage.specs.declared.Wanted.{Wanted}
use Rattle.tb_fpage.specs.Company.{Choice, company, chosen_floats, left_floats}
use Rattle.tb_fpage.proofs.FirstLemmas.{company-all}
use Rattle.tb_column.specs.Column.{PlainColumn}
use Rattle.tb_output.specs.State.{Recorded, output}
use Rattle.tb_laws.proofs.NothingLost.StateWeights.{ColumnsFit}
use Rattle.tb_laws.proofs.ClassesRise.RisingLists.{IsMissing, IsAbove, Rises, rises-front, rises-back, rises-across, rises-known, rises-more, across-back, across-unexcused}
use Rattle.tb_laws.proofs.ClassesRise.ClassLines.{FloatKind, Side, alike, narrow, wider, waits, PartedBy, Parted, WideFrom, class_lines, float_lines, left_lines, floats-append, doubled-lines, company-lines}
use Rattle.tb_laws.proofs.ClassesRise.RecordLines.{record_lines, records-more, IsCarried, carried-more}
use Rattle.tb_laws.proofs.StepLaws.QuietLemmas.{SameAreas, AreQuiet, quiet-lines, double-all, double-same, double-second, double-deferred}
use Rattle.tb_laws.proofs.ClassesRise.PageLines.{append-none, none-front}
use Rattle.tb_laws.proofs.ClassesRise.SpreadLemmas.{later_lines, IsBehind, IsUnseen, spread_lines, Spread, alone, kept, paired, no-first, unseen-unexcused, lefts, unseen-column, lefts-quiet, unseen-quiet, deferred-none, pair-parted, chosen-parted, second-parted, second-waits, deferred-doubled, second-doubled}

module _ (k : FloatKind) (Known : ℕ → Type 0) (text takes : List ℕ) where
  -- ---- records

  module _ (before mid : List ℕ) (rs : List Recorded) (l : FloatLists) (two first : Bool) (o : Option PlainColumn) (h : Spread k Known text takes before rs mid l two first o) where
    from_mid : Rises Known (λ n. IsCarried k n rs) (mid ++ (float_lines k (waits l) ++ later_lines k takes l))
    from_mid =
        rises-back Known (λ n. IsCarried k n rs) (left_lines k o) (mid ++ (float_lines k (waits l) ++ later_lines k takes l))
        (rises-back Known (λ n. IsCarried k n rs) (float_lines k l.double) (left_lines k o ++ (mid ++ (float_lines k (waits l) ++ later_lines k takes l)))
        (rises-back Known (λ n. IsCarried k n rs) before (float_lines k l.double ++ (left_lines k o ++ (mid ++ (float_lines k (waits l) ++ later_lines k takes l)))) h.order))

    in_hand : AllByRecursion Known mid
    in_hand = rises-known Known (λ n. IsCarried k n rs) mid (rises-front Known (λ n. IsCarried k n rs) mid (float_lines k (waits l) ++ later_lines k takes l) from_mid)

    above_hand : AllByRecursion (IsAbove mid) (later_lines k takes l)
    above_hand =
        across-unexcused (λ n. IsCarried k n rs) mid (later_lines k takes l)
        (across-back (λ n. IsCarried k n rs) mid (float_lines k (waits l)) (later_lines k takes l) (rises-across Known (λ n. IsCarried k n rs) mid (float_lines k (waits l) ++ later_lines k takes l) from_mid))
        (unseen-unexcused k rs (later_lines k takes l) h.unseen)

  -- a column in hand is recorded, whose floats are none of the text
  pub recorded : (before : List ℕ) (rs : List Recorded) (c : PlainColumn) (l : FloatLists) (two first : Bool) (o : Option PlainColumn) → AllByRecursion (λ n. IsMissing n (class_lines k c.nodes)) text
      → Spread k Known text takes before rs (class_lines k c.nodes) l two first o → Spread k Known text takes before (rs ++ output c ∷ []) (class_lines k c.nodes) l two first o
  recorded before rs c l two first o apart h = record {
    order = rises-more Known (λ n. IsCarried k n rs) (λ n. IsCarried k n (rs ++ output c ∷ [])) (λ n x. carried-more k n rs (output c ∷ []) x) (spread_lines k takes before (class_lines k c.nodes) l o) h.order;
    left = lefts k rs c text h.left apart;
    behind = h.behind;
    later = h.later;
    unseen = unseen-column k rs c (later_lines k takes l) h.unseen (above_hand before (class_lines k c.nodes) rs l two first o h);
    known = subst (AllByRecursion Known) (sym (records-more k rs (output c))) (all-join Known (record_lines k rs) (class_lines k c.nodes) h.known (in_hand before (class_lines k c.nodes) rs l two first o h));
    parted = h.parted;
    columns = h.columns;
    single = h.single;
    top = h.top;
    bottom = h.bottom;
  }

  -- records of floats in areas
  pub quietly : (before mid : List ℕ) (rs more : List Recorded) (l : FloatLists) (two first : Bool) (o : Option PlainColumn) → AreQuiet more → Spread k Known text takes before rs mid l two first o → Spread k Known text takes before (rs ++ more) mid l two first o
  quietly before mid rs more l two first o q h = record {
    order = rises-more Known (λ n. IsCarried k n rs) (λ n. IsCarried k n (rs ++ more)) (λ n x. carried-more k n rs more x) (spread_lines k takes before mid l o) h.order;
    left = lefts-quiet k rs more q text h.left;
    behind = h.behind;
    later = h.later;
    unseen = unseen-quiet k rs more q (later_lines k takes l) h.unseen;
    known = subst (AllByRecursion Known) (sym (quiet-lines k rs more q)) h.known;
    parted = h.parted;
    columns = h.columns;
    single = h.single;
    top = h.top;
    bottom = h.bottom;
  }

  -- other floats wait or stand above the columns, and other columns are made, but all is in the same order
  moved : {after held : List ℕ} {double deferred second : List Float} {next : Bool} {left : Option PlainColumn} (before mid : List ℕ) (rs : List Recorded) (l : FloatLists) (two first : Bool) (o : Option PlainColumn)
      → (let m : FloatLists = record l { double = double; deferred = deferred; second = second } in spread_lines k takes before mid l o ≡ spread_lines k takes after held m left → AllByRecursion (IsBehind k text) (deferred ++ second) → Parted k m
      → ColumnsFit two next left → (two ≡ false → double ≡ []) → Spread k Known text takes before rs mid l two first o → Spread k Known text takes after rs held m two next left)
  moved before mid rs l two first o same behind parted columns single h = record {
    order = subst (Rises Known (λ n. IsCarried k n rs)) same h.order;
    left = h.left;
    behind = behind;
    later = h.later;
    unseen = h.unseen;
    known = h.known;
    parted = parted;
    columns = columns;
    single = single;
    top = h.top;
    bottom = h.bottom;
  }

  -- ---- where a column goes

  module _ (before mid : List ℕ) (rs : List Recorded) (l : FloatLists) (first : Bool) (o : Option PlainColumn) where
    -- a page alone, if nothing is above the columns or in a left one
    pub shipped_alone : (two : Bool) → l.double ≡ [] → left_lines k o ≡ [] → Spread k Known text takes before rs mid l two first o → Spread k Known text takes (before ++ mid) rs [] l two first o
    shipped_alone two d e h =
        moved before mid rs l two first o (alone before (float_lines k l.double) (left_lines k o) mid (float_lines k (waits l) ++ later_lines k takes l) (ap (float_lines k) d) e) h.behind h.parted h.columns h.single h

  -- the left column of a page
  pub kept_left : (before : List ℕ) (rs : List Recorded) (c : PlainColumn) (l : FloatLists) (two first : Bool) (o : Option PlainColumn) → two ≡ true → first ≡ true
      → Spread k Known text takes before rs (class_lines k c.nodes) l two first o → Spread k Known text takes before rs [] l two false (Some c)
  kept_left before rs c l two first o t f h =
      moved before (class_lines k c.nodes) rs l two first o (kept before (float_lines k l.double) (left_lines k o) (class_lines k c.nodes) (float_lines k (waits l) ++ later_lines k takes l) (no-first k two first o f h.columns)) h.behind h.parted
      (subst (λ x. ColumnsFit x false (Some c)) (sym t) tt) h.single h

  -- a page of two columns with the floats above them
  pub shipped_pair : (before mid : List ℕ) (rs : List Recorded) (l : FloatLists) (two first : Bool) (o : Option PlainColumn)
      → Spread k Known text takes before rs mid l two first o → Spread k Known text takes (before ++ (float_lines k l.double ++ (left_lines k o ++ mid))) rs [] (record l { double = [] }) two true None
  shipped_pair before mid rs l two first o h =
      moved before mid rs l two first o (paired before (float_lines k l.double) (left_lines k o) mid (float_lines k (waits l) ++ later_lines k takes l)) h.behind (pair-parted k l k.side h.parted) (fits two) (λ e. refl) h
    where
      fits : (t : Bool) → ColumnsFit t true None
      fits true = tt
      fits false = tt

  -- ---- floats that leave the lists where they wait

  -- a company is in hand
  pub chosen : (before : List ℕ) (rs : List Recorded) (z : Wanted) (cs : List Choice) (l : FloatLists) (two first : Bool) (o : Option PlainColumn) → company z l.deferred ≡ Some cs
      → Spread k Known text takes before rs [] l two first o → Spread k Known text takes before rs (float_lines k (chosen_floats cs)) (record l { deferred = left_floats cs }) two first o
  chosen before rs z cs l two first o is h =
      moved before [] rs l two first o (ap (λ y. before ++ (float_lines k l.double ++ (left_lines k o ++ y))) (ap (λ y. y ++ later_lines k takes l) waits_are ∙ append_assoc (float_lines k (chosen_floats cs)) (float_lines k (left_floats cs ++ l.second)) (later_lines k takes l)))
      (all-join (IsBehind k text) (left_floats cs) l.second (company-all (IsBehind k text) z l.deferred cs is (all-front (IsBehind k text) l.deferred l.second h.behind)).1 (all-back (IsBehind k text) l.deferred l.second h.behind))
      (chosen-parted k l (chosen_floats cs) (left_floats cs) (company-lines k z l.deferred cs is) k.side h.parted) h.columns h.single h
    where
      waits_are : float_lines k (waits l) ≡ float_lines k (chosen_floats cs) ++ float_lines k (left_floats cs ++ l.second)
      waits_are =
          floats-append k l.deferred l.second ∙ ap (λ y. y ++ float_lines k l.second) (company-lines k z l.deferred cs is)
          ∙ append_assoc (float_lines k (chosen_floats cs)) (float_lines k (left_floats cs)) (float_lines k l.second)
          ∙ ap (λ y. float_lines k (chosen_floats cs) ++ y) (sym (floats-append k (left_floats cs) l.second))

  -- one of the second list
  chosen_second : (before : List ℕ) (rs : List Recorded) (z : Wanted) (cs : List Choice) (l : FloatLists) (two first : Bool) (o : Option PlainColumn) → WideFrom k.side parts.Second → company z l.second ≡ Some cs
      → Spread k Known text takes before rs [] l two first o → Spread k Known text takes before rs (float_lines k (chosen_floats cs)) (record l { second = left_floats cs }) two first o
  chosen_second before rs z cs l two first o w is h =
      moved before [] rs l two first o (ap (λ y. before ++ (float_lines k l.double ++ (left_lines k o ++ y))) (ap (λ y. y ++ later_lines k takes l) (second-waits k l (chosen_floats cs) (left_floats cs) (company-lines k z l.second cs is) k.side w h.parted) ∙ append_assoc (float_lines k (chosen_floats cs)) (float_lines k (l.deferred ++ left_floats cs)) (later_lines k takes l)))
      (all-join (IsBehind k text) l.deferred (left_floats cs) (all-front (IsBehind k text) l.deferred l.second h.behind) (company-all (IsBehind k text) z l.second cs is (all-back (IsBehind k text) l.deferred l.second h.behind)).1)
      (second-parted k l (chosen_floats cs) (left_floats cs) (company-lines k z l.second cs is) k.side w h.parted) h.columns h.single h

  -- one of the list from which wide floats go
  pub chosen_wide : (from : Part) → IsWaiting from → WideFrom k.side from → (before : List ℕ) (rs : List Recorded) (z : Wanted) (cs : List Choice) (l : FloatLists) (two first : Bool) (o : Option PlainColumn) → company z (floats_of from l) ≡ Some cs
      → Spread k Known text takes before rs [] l two first o → Spread k Known text takes before rs (float_lines k (chosen_floats cs)) (with_floats_of from (left_floats cs) l) two first o
  chosen_wide parts.Deferred i w before rs z cs l two first o is h = chosen before rs z cs l two first o is h
  chosen_wide parts.Second i w before rs z cs l two first o is h = chosen_second before rs z cs l two first o w is h
  chosen_wide from i w before rs z cs l two first o is h = absurd i

  -- without a left column and a column in hand, the double floats and those that wait are side by side
  joined_double : (before : List ℕ) (l : FloatLists) (o : Option PlainColumn) → left_lines k o ≡ [] → spread_lines k takes before [] l o ≡ before ++ (float_lines k (l.double ++ waits l) ++ later_lines k takes l)
  joined_double before l o e =
      ap (λ y. before ++ (float_lines k l.double ++ (y ++ (float_lines k (waits l) ++ later_lines k takes l)))) e
      ∙ ap (λ y. before ++ y) (sym (append_assoc (float_lines k l.double) (float_lines k (waits l)) (later_lines k takes l)) ∙ ap (λ y. y ++ later_lines k takes l) (sym (floats-append k l.double (waits l))))

  -- the space above two columns is filled, so that these lists are left
  doubled_to : (before : List ℕ) (rs more : List Recorded) (l m : FloatLists) (two first : Bool) (o : Option PlainColumn) → two ≡ true → left_lines k o ≡ [] → AreQuiet more → SameAreas l m → float_lines k (m.double ++ waits m) ≡ float_lines k (l.double ++ waits l) → AllByRecursion (IsBehind k text) (waits m) → Parted k m
      → Spread k Known text takes before rs [] l two first o → Spread k Known text takes before (rs ++ more) [] m two first o
  doubled_to before rs more l m two first o t e q same lines behind parted h =
      quietly before [] rs more m two first o q (record {
        order = subst (Rises Known (λ n. IsCarried k n rs))
            (joined_double before l o e ∙ ap (λ y. before ++ (y ++ later_lines k takes l)) (sym lines)
            ∙ ap (λ c. before ++ (float_lines k (m.double ++ waits m) ++ (float_lines k (floats_among c) ++ takes))) (sym same.current) ∙ sym (joined_double before m o e)) h.order;
        left = h.left;
        behind = behind;
        parted = parted;
        later = subst (λ c. AllByRecursion (IsAbove text) (float_lines k (floats_among c) ++ takes)) (sym same.current) h.later;
        unseen = subst (λ c. AllByRecursion (IsUnseen k rs) (float_lines k (floats_among c) ++ takes)) (sym same.current) h.unseen;
        known = h.known;
        columns = h.columns;
        single = λ f. absurd (both_ways two f t);
        top = same.top ∙ h.top;
        bottom = same.bottom ∙ h.bottom;
      })

  -- what is parted then
  parted_deferred : (l m : FloatLists) → m.second ≡ l.second → (d : Side) → WideFrom d parts.Deferred → PartedBy d k l → PartedBy d k m
  parted_deferred l m q alike w x = q ∙ x
  parted_deferred l m q narrow w x = absurd w
  parted_deferred l m q wider w x = absurd w

  parted_second : (l m : FloatLists) → SameAreas l m → m.deferred ≡ l.deferred → float_lines k (m.double ++ m.second) ≡ float_lines k (l.double ++ l.second) → (d : Side) → WideFrom d parts.Second → PartedBy d k l → PartedBy d k m
  parted_second l m same q e alike w x = absurd w
  parted_second l m same q e narrow w x =
      let none : float_lines k m.double ++ float_lines k m.second ≡ [] = sym (floats-append k m.double m.second) ∙ e ∙ floats-append k l.double l.second ∙ (λ i. x.0 i ++ x.1 i) in
      (none-front (float_lines k m.double) (float_lines k m.second) none, append-none (float_lines k m.double) (float_lines k m.second) none)
  parted_second l m same q e wider w x = (ap (λ c. float_lines k (floats_among c)) same.current ∙ x.0, (λ i. float_lines k (same.top i ++ same.bottom i ++ q i)) ∙ x.1)

  pub filled_double : (from : Part) → IsWaiting from → WideFrom k.side from → (before : List ℕ) (rs more : List Recorded) (p : Params) (s : Suppress) (l : FloatLists) (two first : Bool) (o : Option PlainColumn) → two ≡ true → left_lines k o ≡ [] → AreQuiet more
      → Spread k Known text takes before rs [] l two first o → Spread k Known text takes before (rs ++ more) [] (doubled from p s [] (floats_of from l) l) two first o
  filled_double parts.Deferred i w before rs more p s l two first o t e q h =
      let m = doubled parts.Deferred p s [] l.deferred l in
      let n = double-second p s l in
      doubled_to before rs more l m two first o t e q (double-same parts.Deferred tt p s l) (deferred-doubled k l m n (doubled-lines parts.Deferred tt k p s l))
      (all-join (IsBehind k text) m.deferred m.second (double-all (IsBehind k text) parts.Deferred tt p s l (all-front (IsBehind k text) l.deferred l.second h.behind)) (subst (AllByRecursion (IsBehind k text)) (sym n) (all-back (IsBehind k text) l.deferred l.second h.behind)))
      (parted_deferred l m n k.side w h.parted) h
  filled_double parts.Second i w before rs more p s l two first o t e q h =
      let m = doubled parts.Second p s [] l.second l in
      let n = double-deferred p s l in
      let same = double-same parts.Second tt p s l in
      let lines = doubled-lines parts.Second tt k p s l in
      doubled_to before rs more l m two first o t e q same (second-doubled k l m n lines k.side w h.parted)
      (all-join (IsBehind k text) m.deferred m.second (subst (AllByRecursion (IsBehind k text)) (sym n) (all-front (IsBehind k text) l.deferred l.second h.behind)) (double-all (IsBehind k text) parts.Second tt p s l (all-back (IsBehind k text) l.deferred l.second h.behind)))
      (parted_second l m same n lines k.side w h.parted) h
  filled_double from i w before rs more p s l two first o t e q h = absurd i

  -- the floats above the two columns go before those of the list where wide ones wait, if no left column is kept
  again_to : (before : List ℕ) (rs : List Recorded) (l m : FloatLists) (two first : Bool) (o : Option PlainColumn) → left_lines k o ≡ [] → float_lines k (waits m) ≡ float_lines k (l.double ++ waits l) → m.double ≡ [] → m.current ≡ l.current → m.top ≡ l.top → m.bottom ≡ l.bottom → AllByRecursion (IsBehind k text) (waits m) → Parted k m
      → Spread k Known text takes before rs [] l two first o → Spread k Known text takes before rs [] m two first o
  again_to before rs l m two first o e lines none cur tops bottoms behind parted h = record {
    order = subst (Rises Known (λ n. IsCarried k n rs))
        (joined_double before l o e ∙ ap (λ y. before ++ (y ++ (float_lines k (floats_among l.current) ++ takes))) (sym lines) ∙ ap (λ c. before ++ (float_lines k (waits m) ++ (float_lines k (floats_among c) ++ takes))) (sym cur)
        ∙ ap (λ y. before ++ (y ++ (float_lines k (waits m) ++ later_lines k takes m))) (sym e) ∙ ap (λ d. before ++ (float_lines k d ++ (left_lines k o ++ (float_lines k (waits m) ++ later_lines k takes m)))) (sym none)) h.order;
    left = h.left;
    behind = behind;
    parted = parted;
    later = subst (λ c. AllByRecursion (IsAbove text) (float_lines k (floats_among c) ++ takes)) (sym cur) h.later;
    unseen = subst (λ c. AllByRecursion (IsUnseen k rs) (float_lines k (floats_among c) ++ takes)) (sym cur) h.unseen;
    known = h.known;
    columns = h.columns;
    single = λ f. none;
    top = tops ∙ h.top;
    bottom = bottoms ∙ h.bottom;
  }

  parted_again : (l : FloatLists) (d : Side) → WideFrom d parts.Second → PartedBy d k l → PartedBy d k (record l { double = []; second = l.double ++ l.second })
  parted_again l alike w x = absurd w
  parted_again l narrow w x = (refl, floats-append k l.double l.second ∙ (λ i. x.0 i ++ x.1 i))
  parted_again l wider w x = x

  lines_again : (l : FloatLists) (d : Side) → WideFrom d parts.Second → PartedBy d k l → float_lines k (l.deferred ++ (l.double ++ l.second)) ≡ float_lines k (l.double ++ (l.deferred ++ l.second))
  lines_again l alike w x = absurd w
  lines_again l narrow w x =
      floats-append k l.deferred (l.double ++ l.second) ∙ ap (λ y. float_lines k l.deferred ++ y) (floats-append k l.double l.second ∙ ap (λ y. y ++ float_lines k l.second) x.0) ∙ sym (floats-append k l.deferred l.second)
      ∙ ap (λ y. y ++ float_lines k (l.deferred ++ l.second)) (sym x.0) ∙ sym (floats-append k l.double (l.deferred ++ l.second))
  lines_again l wider w x =
      let n = deferred-none k l x.1 in
      floats-append k l.deferred (l.double ++ l.second) ∙ ap (λ y. y ++ float_lines k (l.double ++ l.second)) n ∙ floats-append k l.double l.second
      ∙ ap (λ y. float_lines k l.double ++ y) (ap (λ y. y ++ float_lines k l.second) (sym n) ∙ sym (floats-append k l.deferred l.second)) ∙ sym (floats-append k l.double (l.deferred ++ l.second))

  parted_back : (l : FloatLists) (d : Side) → WideFrom d parts.Deferred → PartedBy d k l → PartedBy d k (record l { double = []; deferred = l.double ++ l.deferred })
  parted_back l alike w x = x
  parted_back l narrow w x = absurd w
  parted_back l wider w x = absurd w

  pub double_again : (from : Part) → IsWaiting from → WideFrom k.side from → (before : List ℕ) (rs : List Recorded) (l : FloatLists) (two first : Bool) (o : Option PlainColumn) → left_lines k o ≡ []
      → Spread k Known text takes before rs [] l two first o → AllByRecursion (IsBehind k text) l.double → Spread k Known text takes before rs [] (with_floats_of from (l.double ++ floats_of from l) (record l { double = [] })) two first o
  double_again parts.Deferred i w before rs l two first o e h b =
      let m : FloatLists = record l { double = []; deferred = l.double ++ l.deferred } in
      again_to before rs l m two first o e (ap (float_lines k) (append_assoc l.double l.deferred l.second)) refl refl refl refl
      (subst (AllByRecursion (IsBehind k text)) (sym (append_assoc l.double l.deferred l.second)) (all-join (IsBehind k text) l.double (waits l) b h.behind)) (parted_back l k.side w h.parted) h
  double_again parts.Second i w before rs l two first o e h b =
      let m : FloatLists = record l { double = []; second = l.double ++ l.second } in
      again_to before rs l m two first o e (lines_again l k.side w h.parted) refl refl refl refl
      (all-join (IsBehind k text) l.deferred (l.double ++ l.second) (all-front (IsBehind k text) l.deferred l.second h.behind) (all-join (IsBehind k text) l.double l.second b (all-back (IsBehind k text) l.deferred l.second h.behind))) (parted_again l k.side w h.parted) h
  double_again from i w before rs l two first o e h b = absurd i
