use Rattle.std.proofs.Common.{◌≡◌, ◌∙◌, ℕ, ◌+◌, ap, arith, refl, length, Ok}
use Rattle.dv_schema.specs.Schema.{spelling}
use Rattle.dv_schema.proofs.Again.{spelled}
use Rattle.dv_time.specs.Types.{generalized_time, time}
use Rattle.dv_time.specs.Views.{view_moment, view_time}
use Rattle.dv_time.proofs.TimeLemmas.{moment_fits, time_fits, generalized_spelled, text_long}
use Rattle.dv_time.proofs.laws.moments_are_read_again.Goals as goal

pub returns-clause-generalized : goal.returns-clause-generalized
returns-clause-generalized c = λ s p rest le deep same.
    (let long : length (spelling generalized_time (view_moment s)) ≡ 17 = ap length (generalized_spelled s) ∙ omega (arith, text_long s) in
    spelled generalized_time p (view_moment s) rest refl (moment_fits s p.levels le deep) same
    ∙ ap (λ (n : ℕ). Ok (view_moment s, record { levels = p.levels; place = p.place + n; rest = rest })) long)

pub returns-clause-time : goal.returns-clause-time
returns-clause-time c = λ s p rest le deep same. spelled time p (view_time s) rest refl (time_fits s p.levels le deep) same
