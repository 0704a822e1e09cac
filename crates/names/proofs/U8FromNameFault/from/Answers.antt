-- Every fault gives 9.
use mathlib.Core.Path.{◌≡◌, refl}
use Rattle.format.specs.Names.{fault_number}
use Rattle.names.specs.Texts.{fault_of}
use Rattle.names.specs.declared.NameFault.{NameFault}
use Rattle.names.specs.declared.NameFault.TheVariants.{Outside, NoNul, BadForm, InFreeBlock}
use Rattle.names.proofs.U8FromNameFault.from.Goals as goal

nine : (f : NameFault) → 9 ≡ fault_number (fault_of f)
unfolding fault_number
nine Outside = refl
nine NoNul = refl
nine BadForm = refl
nine InFreeBlock = refl

pub returns : goal.returns
returns c = nine c.args.fault
