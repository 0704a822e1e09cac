-- The first '/' ends the component, or the path's end.
use Rattle.std.proofs.Common.{◌≡◌, rules, tests, arith}
use Rattle.std.proofs.lemmas.Iterator.{YieldsList-from_slice, IsFirst-from_position}
use Rattle.path.proofs.PathLaws.{ends-first, ends-none}
use Rattle.path.proofs.component_end.Goals as goal

pub returns-in-Some : goal.returns-in-Some
returns-in-Some c =
    let first = IsFirst-from_position _ _ c.position.result (λ b. b ≡ 0x2f) (λ b. b ≡ 0x2f → ⊥) c.position.ensures.ran
    (YieldsList-from_slice _ c.iter.ensures.rest) (λ b q k. search (rules, tests)) (λ b q k. search (rules, tests)) in
    let found = rw c.in-Some.is at first in
    ends-first c.args.path.now c.args.from c.requires c.in-Some.n found.0 (found.1 0) (λ k l. found.2 k 0 (omega arith) l)

pub returns-in-None : goal.returns-in-None
returns-in-None c =
    let first = IsFirst-from_position _ _ c.position.result (λ b. b ≡ 0x2f) (λ b. b ≡ 0x2f → ⊥) c.position.ensures.ran
    (YieldsList-from_slice _ c.iter.ensures.rest) (λ b q k. search (rules, tests)) (λ b q k. search (rules, tests)) in
    let none = rw c.in-None.is at first in
    ends-none c.args.path.now c.args.from c.requires (λ k l. none k 0 (omega arith) l)
