-- Each test against its place in the walk.
use mathlib.Core.Logic.{inr}
use mathlib.Core.Path.{refl, sym, ◌∙◌}
use Prim.Native.Nat.{◌-◌}
use Rattle.format.specs.Message.{read_message}
use Rattle.format.specs.Result.{◌>>=◌}
use Rattle.walk.proofs.Parts.{part_length}
use Rattle.message.proofs.MessageLaws.{head-shown, body-there, second-there, fields-long}
use native.Mathlib.Omega.{arith}
use Rattle.std.proofs.lemmas.Grind.{common_steps}
use Rattle.message.proofs.message.Goals as goal

pub returns-then-end-at-lt8 : goal.returns-then-end-at-lt8
unfolding read_message ◌>>=◌
returns-then-end-at-lt8 c =
    let a = c.args in
    let l = part_length a.image.now a.at (a.end - a.at) (omega arith) in
    record { walk = grind (arith, common_steps); fields = tt }

pub returns-then-not-type_allowed : goal.returns-then-not-type_allowed
unfolding read_message ◌>>=◌
returns-then-not-type_allowed c =
    let a = c.args in
    let s = head-shown a.image.now a.at (a.end - a.at) (omega arith) (omega arith) in
    record { walk = grind (arith, common_steps); fields = tt }

pub returns-then-size-ne0 : goal.returns-then-size-ne0
unfolding read_message ◌>>=◌
returns-then-size-ne0 c =
    let a = c.args in
    let s = head-shown a.image.now a.at (a.end - a.at) (omega arith) (omega arith) in
    record { walk = grind (arith, common_steps); fields = tt }

pub returns-then-end-at : goal.returns-then-end-at
unfolding read_message ◌>>=◌
returns-then-end-at c =
    let a = c.args in
    let s = head-shown a.image.now a.at (a.end - a.at) (omega arith) (omega arith) in
    record { walk = grind (arith, common_steps); fields = tt }

pub returns-then-not-flags_allowed : goal.returns-then-not-flags_allowed
unfolding read_message ◌>>=◌
returns-then-not-flags_allowed c =
    let a = c.args in
    let s = head-shown a.image.now a.at (a.end - a.at) (omega arith) (omega arith) in
    record { walk = grind (arith, common_steps); fields = tt }

pub returns-then-not-fields_there : goal.returns-then-not-fields_there
unfolding read_message ◌>>=◌
returns-then-not-fields_there c =
    let a = c.args in
    let s = head-shown a.image.now a.at (a.end - a.at) (omega arith) (omega arith) in
    record { walk = grind (arith, common_steps); fields = tt }

pub returns-then-not-continuation_sound : goal.returns-then-not-continuation_sound
unfolding read_message ◌>>=◌
returns-then-not-continuation_sound c =
    let a = c.args in
    let n = a.end - a.at in
    let s = head-shown a.image.now a.at n (omega arith) (omega arith) in
    let b = body-there a.image.now a.at n (omega arith) (omega arith) c.u16_at-size.result (omega arith) in
    record { walk = grind (arith, common_steps, second-there, fields-long); fields = tt }

pub returns : goal.returns
unfolding read_message ◌>>=◌
returns c =
    let a = c.args in
    let n = a.end - a.at in
    let s = head-shown a.image.now a.at n (omega arith) (omega arith) in
    let b = body-there a.image.now a.at n (omega arith) (omega arith) c.u16_at-size.result (omega arith) in
    record {
      walk = grind (arith, common_steps, second-there, fields-long);
      fields = record {
        kind_there = c.u16_at-kind.ensures.value;
        size_there = c.u16_at-size.ensures.value;
        flags_there = refl;
        inside = omega arith;
        long = λ e. fields-long _ _ (sym c.if-not-fields_there.false ∙ c.fields_there.ensures) (inr e);
      };
    }
