-- By the message's type: another message is passed by; an attribute is read, and what it shares is counted.
use Rattle.sharing.proofs.SharingLaws.{other-message, own-type, bad-attribute, shared-type}
use Rattle.std.proofs.lemmas.Result.{err_from_is_err_and}
use Rattle.sharing.proofs.FoundMessageVisitor.visit_message.Goals as goal

pub returns-then-passed_by-clause-visited : goal.returns-then-passed_by-clause-visited
returns-then-passed_by-clause-visited c = other-message _ _ _ _ _ _ c.if-passed_by.true

pub returns-in_err-address-clause-visited : goal.returns-in_err-address-clause-visited
returns-in_err-address-clause-visited c =
    let p = err_from_is_err_and c.from_residual.result c.from_residual.ensures.1 in
    rw (p.1, p.2) (bad-attribute _ _ _ _ _ _ c.if-passed_by.false c.read.ensures _ c.in_err-address.was)

pub returns-in-Some-clause-visited : goal.returns-in-Some-clause-visited
returns-in-Some-clause-visited c =
    shared-type _ _ _ _ _ _ c.if-passed_by.false c.read.ensures _ (cc c.in_ok-address.was) _ _ _ _ _ c.share.ensures.shared

pub returns-in-None-clause-visited : goal.returns-in-None-clause-visited
returns-in-None-clause-visited c = own-type _ _ _ _ _ _ c.if-passed_by.false c.read.ensures (cc c.in_ok-address.was)
