-- A signer has one fault at most.
use Rattle.std.proofs.Common.{◌≡◌, ◌∙◌, Option, Some, None, refl, sym}
use Rattle.dv_schema.specs.Schema.{ValueOf}
use Rattle.dv_cms.specs.Types.{signer_info}
use Rattle.dv_signed.specs.declared.fault.SignerFault.{SignerFault}
use Rattle.dv_signed.specs.declared.fault.SignerFault.TheVariants.{Algorithm, Attribute, Digest, Signature}
use Rattle.dv_signed.specs.Check.{IsFault, Signed, early_fault}

-- the fault that stands before the signature
early : Option SignerFault → Option SignerFault
early None = None
early (Some Signature) = None
early (Some Algorithm) = Some Algorithm
early (Some Attribute) = Some Attribute
early (Some Digest) = Some Digest

told : (s : ValueOf signer_info) (x : Signed) (f : Option SignerFault) → IsFault s x f → early_fault s x ≡ early f
unfolding early
told s x None p = p.0
told s x (Some Signature) p = p.0
told s x (Some Algorithm) p = p
told s x (Some Attribute) p = p
told s x (Some Digest) p = p

-- where there is one, it is the fault
back : (g : Option SignerFault) (f : SignerFault) → early g ≡ Some f → g ≡ Some f
unfolding early
back None f e = absurd cc
back (Some Signature) f e = absurd cc
back (Some Algorithm) f e = e
back (Some Attribute) f e = e
back (Some Digest) f e = e

-- where there is none, the signature decides
none_early : (s : ValueOf signer_info) (x : Signed) (g : Option SignerFault) → early_fault s x ≡ None → IsFault s x g → early g ≡ None
none_early s x g e q = sym (told s x g q) ∙ e

signs : (s : ValueOf signer_info) (x : Signed) (g : Option SignerFault) → IsFault s x None → IsFault s x g → early g ≡ None → None ≡ g
unfolding early
signs s x None p q e = refl
signs s x (Some Signature) p q e = absurd (q.1 p.1)
signs s x (Some Algorithm) p q e = absurd cc
signs s x (Some Attribute) p q e = absurd cc
signs s x (Some Digest) p q e = absurd cc

signs_not : (s : ValueOf signer_info) (x : Signed) (g : Option SignerFault) → IsFault s x (Some Signature) → IsFault s x g → early g ≡ None → Some Signature ≡ g
unfolding early
signs_not s x None p q e = absurd (p.1 q.1)
signs_not s x (Some Signature) p q e = refl
signs_not s x (Some Algorithm) p q e = absurd cc
signs_not s x (Some Attribute) p q e = absurd cc
signs_not s x (Some Digest) p q e = absurd cc

pub one_fault : (s : ValueOf signer_info) (x : Signed) (f g : Option SignerFault) → IsFault s x f → IsFault s x g → f ≡ g
one_fault s x None g p q = signs s x g p q (none_early s x g p.0 q)
one_fault s x (Some Signature) g p q = signs_not s x g p q (none_early s x g p.0 q)
one_fault s x (Some Algorithm) g p q = sym (back g Algorithm (sym (told s x g q) ∙ p))
one_fault s x (Some Attribute) g p q = sym (back g Attribute (sym (told s x g q) ∙ p))
one_fault s x (Some Digest) g p q = sym (back g Digest (sym (told s x g q) ∙ p))
