-- A text that is kept until it is written, and what a sink would hold if it were.
use Rattle.std.proofs.Common.{◌≡◌, refl, sym, subst, ◌∙◌, ap, ℕ, List, [], ◌++◌, take, drop, Option, Some, None, append_assoc, append-nil, take-append-drop}
use Rattle.std.proofs.lemmas.List.{append_cancel_left}
use Rattle.std.specs.Io.KnownBytes.{Appends, append_known}
use Rattle.std.proofs.KnownBytes.{Appends-nil, Appends-trans}
use Rattle.tb_io.specs.Sink.{AppendsPrefix}
use Rattle.tb_io.proofs.Appended.{prefix_longer, prefix_on}
use Rattle.tb_top.specs.Kept.{Grows, Keeps}

-- ---- a sink that grows

pub grows-nothing : (held : Option (List ℕ)) → Grows held held
grows-nothing held = ([], Appends-nil held)

pub grows-on : (a b c : Option (List ℕ)) → Grows a b → Grows b c → Grows a c
grows-on a b c p q = (p.0 ++ q.0, Appends-trans a b c p.0 q.0 p.1 q.1)

-- ---- what is kept

-- these bytes were kept before
pub keeps-longer : (before after : Option (List ℕ)) (old mid new bytes : List ℕ) → mid ≡ old ++ bytes → Keeps before after mid new [] → Keeps before after old new bytes
keeps-longer before after old mid new bytes is k = record { written = k.written; held = k.held; rest = sym is ∙ sym (append-nil mid) ∙ k.rest }

pub keeps-grows : (before after : Option (List ℕ)) (old new bytes : List ℕ) → Keeps before after old new bytes → Grows before after
keeps-grows before after old new bytes k = (k.written, k.held)

-- ---- a sink once what is kept is written

pub first-kept : (held : Option (List ℕ)) (bytes : List ℕ) → Appends held (append_known held bytes) bytes
first-kept None bytes = tt
first-kept (Some x) bytes = refl

pub more-kept : (held : Option (List ℕ)) (kept bytes : List ℕ) → Appends (append_known held kept) (append_known held (kept ++ bytes)) bytes
more-kept None kept bytes = tt
more-kept (Some x) kept bytes = sym (append_assoc x kept bytes)

-- it would grow by what is kept and written
pub keeps-appends : (before after : Option (List ℕ)) (old new bytes : List ℕ) → Keeps before after old new bytes → Appends (append_known before old) (append_known after new) bytes
keeps-appends None after old new bytes k = tt
keeps-appends (Some x) None old new bytes k = absurd k.held
keeps-appends (Some x) (Some y) old new bytes k = ap (λ l. l ++ new) k.held ∙ append_assoc x k.written new ∙ ap (λ l. x ++ l) (sym k.rest) ∙ sym (append_assoc x old bytes)

-- what is kept is written, and more
pub more-written : (before after : Option (List ℕ)) (kept more : List ℕ) → Appends before after (kept ++ more) → Appends (append_known before kept) after more
more-written None after kept more a = tt
more-written (Some x) None kept more a = absurd a
more-written (Some x) (Some y) kept more a = a ∙ sym (append_assoc x kept more)

-- it is written, and so the sink holds what it would hold
pub all-written : (start before after : Option (List ℕ)) (kept whole : List ℕ) → Appends start (append_known before kept) whole → Appends before after kept → Appends start after whole
all-written None before after kept whole p a = tt
all-written (Some s) None after kept whole p a = absurd p
all-written (Some s) (Some x) None kept whole p a = absurd a
all-written (Some s) (Some x) (Some y) kept whole p a = a ∙ p

-- a front of it is written: the sink holds a front of what it would hold
pub front-written : (start before after : Option (List ℕ)) (kept whole : List ℕ) → Grows start before → AppendsPrefix before after kept → AppendsPrefix start (append_known before kept) whole → AppendsPrefix start after whole
front-written None before after kept whole g a p = (0, tt)
front-written (Some s) None after kept whole g a p = absurd g.1
front-written (Some s) (Some x) None kept whole g a p = absurd a.1
front-written (Some s) (Some x) (Some y) kept whole g a p =
    let front = prefix_on (Some s) (Some x) (Some y) (g.0 ++ kept) g.0 kept [] g.1 a (ap (λ l. g.0 ++ l) (sym (append-nil kept))) in
    let same : g.0 ++ kept ≡ take p.0 whole = append_cancel_left s (g.0 ++ kept) (take p.0 whole) (sym (append_assoc s g.0 kept) ∙ ap (λ l. l ++ kept) (sym g.1) ∙ p.1) in
    subst (AppendsPrefix (Some s) (Some y)) (take-append-drop p.0 whole)
    (prefix_longer (Some s) (Some y) (take p.0 whole) (drop p.0 whole) (subst (AppendsPrefix (Some s) (Some y)) same front))

-- nothing of it is written
pub none-written : (start held : Option (List ℕ)) (kept whole : List ℕ) → Grows start held → AppendsPrefix start (append_known held kept) whole → AppendsPrefix start held whole
none-written start held kept whole g p = front-written start held held kept whole g (0, Appends-nil held) p
