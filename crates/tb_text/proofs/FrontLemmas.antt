-- One part after another is appended: fronts of the parts are fronts of the whole.
use Rattle.std.proofs.Common.{◌≡◌, refl, sym, ap, ◌∙◌, List, [], ◌++◌, append_assoc, append-nil, Result, Ok, Err, IsErr, OnOk}
use Rattle.tb_text.specs.Fronts.{PutsFront, PutsAfter}

module _ {A : Type 0} where
  -- nothing is appended, or all
  pub put-none : (before whole : List A) → PutsFront before whole before
  put-none before whole = record { put = []; left = whole; front = refl; appended = sym (append-nil before) }

  pub put-all : (before whole after : List A) → after ≡ before ++ whole → PutsFront before whole after
  put-all before whole after e = record { put = whole; left = []; front = append-nil whole; appended = e }

  -- a front of the first part
  pub cut-in : {before a after : List A} (rest whole : List A) → a ++ rest ≡ whole → PutsFront before a after → PutsFront before whole after
  cut-in {before} {a} {after} rest whole e p =
      record { put = p.put; left = p.left ++ rest; front = sym (append_assoc p.put p.left rest) ∙ ap (λ t. t ++ rest) p.front ∙ e; appended = p.appended }

  -- the first part, and a front of the second
  pub cut-after : {before mid b after : List A} (a whole : List A) → a ++ b ≡ whole → mid ≡ before ++ a → PutsFront mid b after → PutsFront before whole after
  cut-after {before} {mid} {b} {after} a whole e m p =
      record {
        put = a ++ p.put;
        left = p.left;
        front = append_assoc a p.put p.left ∙ ap (λ t. a ++ t) p.front ∙ e;
        appended = p.appended ∙ ap (λ t. t ++ p.put) m ∙ append_assoc before a p.put;
      }

  -- the same where the whole shows its parts
  pub cut : {before a after : List A} (rest : List A) → PutsFront before a after → PutsFront before (a ++ rest) after
  cut {before} {a} {after} rest p = cut-in rest (a ++ rest) refl p

  pub past : {before mid b after : List A} (a : List A) → mid ≡ before ++ a → PutsFront mid b after → PutsFront before (a ++ b) after
  past {before} {mid} {b} {after} a m p = cut-after a (a ++ b) refl m p

  -- of the whole all is there but what is left
  pub record PutSoFar (before whole now left : List A) : Type 0 where
    pub put : List A
    pub front : put ++ left ≡ whole
    pub appended : now ≡ before ++ put

  pub put-begins : (before whole : List A) → PutSoFar before whole before whole
  put-begins before whole = record { put = []; front = refl; appended = sym (append-nil before) }

  -- the next part is appended
  pub put-more : {before whole now : List A} (next part left : List A) → PutSoFar before whole now (part ++ left) → next ≡ now ++ part → PutSoFar before whole next left
  put-more {before} {whole} {now} next part left p e =
      record {
        put = p.put ++ part;
        front = append_assoc p.put part left ∙ p.front;
        appended = e ∙ ap (λ t. t ++ part) p.appended ∙ append_assoc before p.put part;
      }

  -- it stops within the next part
  pub put-stops : {before whole now after : List A} (part left : List A) → PutSoFar before whole now (part ++ left) → PutsFront now part after → PutsFront before whole after
  put-stops {before} {whole} {now} {after} part left p q = cut-after p.put whole p.front p.appended (cut left q)

  pub put-ends : {before whole now : List A} → PutSoFar before whole now [] → now ≡ before ++ whole
  put-ends {before} {whole} {now} p = p.appended ∙ ap (λ t. before ++ t) (sym (append-nil p.put) ∙ p.front)

  module _ {T E : Type 0} where
    -- the call fails: a front is there
    pub fails : (r : Result T E) (before whole after : List A) → IsErr r → PutsFront before whole after → PutsAfter r before whole after
    fails (Err e) before whole after is p = p
    fails (Ok v) before whole after is p = cc

    -- if the call succeeds, the whole is there
    pub when_ok : (r : Result T E) (before whole after : List A) → PutsAfter r before whole after → OnOk r (after ≡ before ++ whole)
    when_ok (Ok v) before whole after p = p
    when_ok (Err e) before whole after p = tt

    -- the first part, and a call that appends the second
    pub on_joined : (r : Result T E) (before mid after a b whole : List A) → a ++ b ≡ whole → mid ≡ before ++ a → PutsAfter r mid b after → PutsAfter r before whole after
    on_joined (Ok v) before mid after a b whole e m p = p ∙ ap (λ t. t ++ b) m ∙ append_assoc before a b ∙ ap (λ t. before ++ t) e
    on_joined (Err v) before mid after a b whole e m p = cut-after a whole e m p
