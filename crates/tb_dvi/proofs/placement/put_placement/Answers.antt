use Rattle.std.proofs.Common.{length, ◌%◌, FitsSigned, List, [], append_assoc, refl, subst, w32, ℕ, ◌++◌, ◌∷◌, ◌≡◌}
use Rattle.std.proofs.lemmas.Int.{to_z-of_z}
use Rattle.tb_text.specs.Fronts.{PutsFront, PutsAfter}
use Rattle.tb_text.proofs.FrontLemmas.{cut, fails, on_joined, past}
use Rattle.tb_dvi.specs.File.{signed_4, rule_bytes}
use Rattle.tb_dvi.proofs.placement.put_placement.Goals as goal

-- the parts, one after another
joined : (a b d e f g h i : List ℕ) → a ++ (b ++ (d ++ (e ++ (f ++ (g ++ (h ++ i)))))) ≡ a ++ b ++ d ++ e ++ f ++ g ++ h ++ i
joined a b d e f g h i = simp append_assoc

pub returns-in_err-put : goal.returns-in_err-put
returns-in_err-put c =
    let fv : FitsSigned w32 c.args.v = c.ranges.v in
    let fh : FitsSigned w32 c.args.h = c.ranges.h in
    fails _ _ _ _ c.from_residual.ensures.0 (subst (λ (t : List ℕ). PutsFront c.args.out.now.items t c.put.new.out.items) (joined (141 ∷ 160 ∷ []) (signed_4 c.args.v) (146 ∷ []) (signed_4 c.args.h) (239 ∷ length c.args.label.now % 256 ∷ []) c.args.label.now (rule_bytes c.args.rule) (142 ∷ []))
    (cut (signed_4 c.args.v ++ (146 ∷ [] ++ (signed_4 c.args.h ++ (239 ∷ length c.args.label.now % 256 ∷ [] ++ (c.args.label.now ++ (rule_bytes c.args.rule ++ 142 ∷ [])))))) c.in_err-put.ensures))

pub returns-in_err-put_signed : goal.returns-in_err-put_signed
returns-in_err-put_signed c =
    let fv : FitsSigned w32 c.args.v = c.ranges.v in
    let fh : FitsSigned w32 c.args.h = c.ranges.h in
    fails _ _ _ _ c.from_residual-in_err-put_signed.ensures.0 (subst (λ (t : List ℕ). PutsFront c.args.out.now.items t c.put_signed.new.out.items) (joined (141 ∷ 160 ∷ []) (signed_4 c.args.v) (146 ∷ []) (signed_4 c.args.h) (239 ∷ length c.args.label.now % 256 ∷ []) c.args.label.now (rule_bytes c.args.rule) (142 ∷ []))
    (past _ c.in_ok-put.ensures (cut (146 ∷ [] ++ (signed_4 c.args.h ++ (239 ∷ length c.args.label.now % 256 ∷ [] ++ (c.args.label.now ++ (rule_bytes c.args.rule ++ 142 ∷ []))))) (simp to_z-of_z at c.in_err-put_signed.ensures))))

pub returns-in_err-put-2 : goal.returns-in_err-put-2
returns-in_err-put-2 c =
    let fv : FitsSigned w32 c.args.v = c.ranges.v in
    let fh : FitsSigned w32 c.args.h = c.ranges.h in
    fails _ _ _ _ c.from_residual-in_err-put-2.ensures.0 (subst (λ (t : List ℕ). PutsFront c.args.out.now.items t c.put-2.new.out.items) (joined (141 ∷ 160 ∷ []) (signed_4 c.args.v) (146 ∷ []) (signed_4 c.args.h) (239 ∷ length c.args.label.now % 256 ∷ []) c.args.label.now (rule_bytes c.args.rule) (142 ∷ []))
    (past _ c.in_ok-put.ensures (past _ (simp to_z-of_z at c.in_ok-put_signed.ensures) (cut (signed_4 c.args.h ++ (239 ∷ length c.args.label.now % 256 ∷ [] ++ (c.args.label.now ++ (rule_bytes c.args.rule ++ 142 ∷ [])))) c.in_err-put-2.ensures))))

pub returns-in_err-put_signed-2 : goal.returns-in_err-put_signed-2
returns-in_err-put_signed-2 c =
    let fv : FitsSigned w32 c.args.v = c.ranges.v in
    let fh : FitsSigned w32 c.args.h = c.ranges.h in
    fails _ _ _ _ c.from_residual-in_err-put_signed-2.ensures.0 (subst (λ (t : List ℕ). PutsFront c.args.out.now.items t c.put_signed-2.new.out.items) (joined (141 ∷ 160 ∷ []) (signed_4 c.args.v) (146 ∷ []) (signed_4 c.args.h) (239 ∷ length c.args.label.now % 256 ∷ []) c.args.label.now (rule_bytes c.args.rule) (142 ∷ []))
    (past _ c.in_ok-put.ensures (past _ (simp to_z-of_z at c.in_ok-put_signed.ensures) (past _ c.in_ok-put-2.ensures (cut (239 ∷ length c.args.label.now % 256 ∷ [] ++ (c.args.label.now ++ (rule_bytes c.args.rule ++ 142 ∷ []))) (simp to_z-of_z at c.in_err-put_signed-2.ensures))))))

pub returns-in_err-put-3 : goal.returns-in_err-put-3
returns-in_err-put-3 c =
    let fv : FitsSigned w32 c.args.v = c.ranges.v in
    let fh : FitsSigned w32 c.args.h = c.ranges.h in
    fails _ _ _ _ c.from_residual-in_err-put-3.ensures.0 (subst (λ (t : List ℕ). PutsFront c.args.out.now.items t c.put-3.new.out.items) (joined (141 ∷ 160 ∷ []) (signed_4 c.args.v) (146 ∷ []) (signed_4 c.args.h) (239 ∷ length c.args.label.now % 256 ∷ []) c.args.label.now (rule_bytes c.args.rule) (142 ∷ []))
    (past _ c.in_ok-put.ensures (past _ (simp to_z-of_z at c.in_ok-put_signed.ensures) (past _ c.in_ok-put-2.ensures (past _ (simp to_z-of_z at c.in_ok-put_signed-2.ensures) (cut (c.args.label.now ++ (rule_bytes c.args.rule ++ 142 ∷ [])) c.in_err-put-3.ensures))))))

pub returns-in_err-put-4 : goal.returns-in_err-put-4
returns-in_err-put-4 c =
    let fv : FitsSigned w32 c.args.v = c.ranges.v in
    let fh : FitsSigned w32 c.args.h = c.ranges.h in
    fails _ _ _ _ c.from_residual-in_err-put-4.ensures.0 (subst (λ (t : List ℕ). PutsFront c.args.out.now.items t c.put-4.new.out.items) (joined (141 ∷ 160 ∷ []) (signed_4 c.args.v) (146 ∷ []) (signed_4 c.args.h) (239 ∷ length c.args.label.now % 256 ∷ []) c.args.label.now (rule_bytes c.args.rule) (142 ∷ []))
    (past _ c.in_ok-put.ensures (past _ (simp to_z-of_z at c.in_ok-put_signed.ensures) (past _ c.in_ok-put-2.ensures (past _ (simp to_z-of_z at c.in_ok-put_signed-2.ensures) (past _ c.in_ok-put-3.ensures (cut (rule_bytes c.args.rule ++ 142 ∷ []) c.in_err-put-4.ensures)))))))

pub returns-in_err-put_height : goal.returns-in_err-put_height
returns-in_err-put_height c =
    let fv : FitsSigned w32 c.args.v = c.ranges.v in
    let fh : FitsSigned w32 c.args.h = c.ranges.h in
    fails _ _ _ _ c.from_residual-in_err-put_height.ensures.0 (subst (λ (t : List ℕ). PutsFront c.args.out.now.items t c.put_height.new.out.items) (joined (141 ∷ 160 ∷ []) (signed_4 c.args.v) (146 ∷ []) (signed_4 c.args.h) (239 ∷ length c.args.label.now % 256 ∷ []) c.args.label.now (rule_bytes c.args.rule) (142 ∷ []))
    (past _ c.in_ok-put.ensures (past _ (simp to_z-of_z at c.in_ok-put_signed.ensures) (past _ c.in_ok-put-2.ensures (past _ (simp to_z-of_z at c.in_ok-put_signed-2.ensures) (past _ c.in_ok-put-3.ensures (past _ c.in_ok-put-4.ensures (cut (142 ∷ []) c.in_err-put_height.ensures))))))))

pub returns : goal.returns
returns c =
    let fv : FitsSigned w32 c.args.v = c.ranges.v in
    let fh : FitsSigned w32 c.args.h = c.ranges.h in
    subst (λ (t : List ℕ). PutsAfter c.put-5.result c.args.out.now.items t c.put-5.new.out.items) (joined (141 ∷ 160 ∷ []) (signed_4 c.args.v) (146 ∷ []) (signed_4 c.args.h) (239 ∷ length c.args.label.now % 256 ∷ []) c.args.label.now (rule_bytes c.args.rule) (142 ∷ []))
    (on_joined c.put-5.result c.args.out.now.items c.put.new.out.items c.put-5.new.out.items _ _ _ refl c.in_ok-put.ensures (on_joined c.put-5.result c.put.new.out.items c.put_signed.new.out.items c.put-5.new.out.items _ _ _ refl (simp to_z-of_z at c.in_ok-put_signed.ensures) (on_joined c.put-5.result c.put_signed.new.out.items c.put-2.new.out.items c.put-5.new.out.items _ _ _ refl c.in_ok-put-2.ensures (on_joined c.put-5.result c.put-2.new.out.items c.put_signed-2.new.out.items c.put-5.new.out.items _ _ _ refl (simp to_z-of_z at c.in_ok-put_signed-2.ensures) (on_joined c.put-5.result c.put_signed-2.new.out.items c.put-3.new.out.items c.put-5.new.out.items _ _ _ refl c.in_ok-put-3.ensures (on_joined c.put-5.result c.put-3.new.out.items c.put-4.new.out.items c.put-5.new.out.items _ _ _ refl c.in_ok-put-4.ensures (on_joined c.put-5.result c.put-4.new.out.items c.put_height.new.out.items c.put-5.new.out.items _ _ _ refl c.in_ok-put_height.ensures c.put-5.ensures)))))))
