-- The fuel's default heat and its class add their flags. Assumes nothing.
use Rattle.std.proofs.Common.{◌≡◌, ℕ, ◌+◌, ◌<◌, ◌≤◌, ltb, sym, refl, ap, ◌∙◌, ap₂, arith, le-ltb, lt-ltb}
use Rattle.choice.specs.Tests.{choose}
use Rattle.choice.proofs.TestsLaws.{choose_t, choose_f, eq_of, ne_of}
use Rattle.rules.specs.Fields.{default_heat}
use Rattle.rules.specs.Index.{allowed_flags}
use Rattle.rules.proofs.index.find_allowed.Goals as goal
use Rattle.rules.proofs.index.find_allowed.Goals.{then-default_heat-gt0, else-default_heat-gt0}

heated : {r h x : ℕ} → r ≡ h → 0 < r → x ≡ 15 → x ≡ 10 + choose (ltb 0 h) 5 0
heated {h = h} told more is = is ∙ ap (λ (y : ℕ). 10 + y) (sym (choose_t 0 (lt-ltb 0 h (omega arith)) refl))

unheated : {r h x : ℕ} → r ≡ h → r ≤ 0 → x ≡ 10 → x ≡ 10 + choose (ltb 0 h) 5 0
unheated {h = h} told none is = is ∙ ap (λ (y : ℕ). 10 + y) (sym (choose_f 5 (le-ltb 0 h (omega arith)) refl))

none_more : {x y z : ℕ} → x ≡ y → z ≡ 0 → x ≡ y + z
none_more p q = omega arith

pub returns-then-fuel_class-eq1 : goal.returns-then-fuel_class-eq1
unfolding allowed_flags
returns-then-fuel_class-eq1 c =
    let told : c.default_heat.result ≡ default_heat c.args.f.now = c.default_heat.ensures.field in
    let heat : c.if-default_heat-gt0.flags ≡ 10 + choose (ltb 0 (default_heat c.args.f.now)) 5 0 =
    elim c.if-default_heat-gt0.branch [
      | then-default_heat-gt0 w ↦ heated told w.if-default_heat-gt0.true w.flags-is
      | else-default_heat-gt0 w ↦ unheated told w.if-default_heat-gt0.false w.flags-is
    ] in
    record { allowed = ap₂ ◌+◌ heat (sym (choose_t 0 (eq_of c.fuel_class.ensures.field c.if-fuel_class-eq1.true) refl)) }

pub returns-else-fuel_class-eq1 : goal.returns-else-fuel_class-eq1
unfolding allowed_flags
returns-else-fuel_class-eq1 c =
    let told : c.default_heat.result ≡ default_heat c.args.f.now = c.default_heat.ensures.field in
    let heat : c.if-default_heat-gt0.flags ≡ 10 + choose (ltb 0 (default_heat c.args.f.now)) 5 0 =
    elim c.if-default_heat-gt0.branch [
      | then-default_heat-gt0 w ↦ heated told w.if-default_heat-gt0.true w.flags-is
      | else-default_heat-gt0 w ↦ unheated told w.if-default_heat-gt0.false w.flags-is
    ] in
    record { allowed = none_more heat (choose_f 160 (ne_of c.fuel_class.ensures.field c.if-fuel_class-eq1.false) refl) }
