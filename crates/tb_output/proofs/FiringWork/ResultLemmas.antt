-- What holds whether a call succeeds or fails.
use Rattle.std.proofs.Common.{◌≡◌, sym, subst, Result, Ok, Err}
use Rattle.std.specs.Prelude.{IfOk, IfErr, OnOk, IsErrAnd}
use Rattle.tb_output.specs.declared.RunFault.{RunFault}
use Rattle.tb_output.specs.declared.RunFault.TheVariants as faults

-- what holds either way
pub either-way : {T E : Type 0} (r : Result T E) (P : T → Type 0) (Q : E → Type 0) (A : Type 0) → ((x : T) → P x → A) → ((e : E) → Q e → A) → IfOk r P → IfErr r Q → A
either-way (Ok x) P Q A f g h k = f x h
either-way (Err e) P Q A f g h k = g e k

-- there was no memory
pub memory-err : {T : Type 0} (r : Result T RunFault) (P : RunFault → Type 0) → IsErrAnd r (λ e. e ≡ faults.Memory) → P faults.Memory → IfErr r P
memory-err (Ok x) P h p = tt
memory-err (Err e) P h p = subst P (sym h) p

-- the refusal of a part is handed on
pub same-err : {T E : Type 0} (r : Result T E) (e : E) (P : E → Type 0) → IsErrAnd r (λ x. x ≡ e) → P e → IfErr r P
same-err (Ok x) e P h p = tt
same-err (Err x) e P h p = subst P (sym h) p

-- what follows from what holds of a result
pub ok-map : {T E : Type 0} (r : Result T E) (A B : Type 0) → (A → B) → OnOk r A → OnOk r B
ok-map (Ok x) A B f h = f h
ok-map (Err e) A B f h = tt

pub err-map : {T E : Type 0} (r : Result T E) (P Q : E → Type 0) → ((e : E) → P e → Q e) → IfErr r P → IfErr r Q
err-map (Ok x) P Q f h = tt
err-map (Err e) P Q f h = f e h
