use Rattle.std.proofs.Common.{◌≡◌, ◌∷◌, ℕ, List, [], Some, None, true, sym, ap, subst, ◌∙◌, refl}
use Rattle.std.specs.Prelude.{slice_get}
use Rattle.dv_schema.specs.Schema.{is_among}
use Rattle.dv_schema.specs.Reading.{read, starts_list}
use Rattle.dv_schema.specs.Answers.{Reads}
use Rattle.dv_schema.proofs.Orders.{whole_among, whole_not, whole_end}
use Rattle.dv_asn1.proofs.cursor.Cursor.skip_one_of.Goals as goal

-- no tag is there exactly where nothing is
nothing : (bytes : List ℕ) → None ≡ slice_get bytes 0 → bytes ≡ []
nothing [] e = refl
nothing (b ∷ bs) e = absurd cc

-- a tag that is there begins what is left
begun : (bytes : List ℕ) (t : ℕ) → Some t ≡ slice_get bytes 0 → (ts : List ℕ) × (bytes ≡ t ∷ ts)
begun [] t e = absurd cc
begun (b ∷ bs) t e = let same : t ≡ b = cc in (bs, ap (λ (k : ℕ). k ∷ bs) (sym same))

pub returns-in_default : goal.returns-in_default
returns-in_default c =
    rw c.refusal.ensures (whole_end c.args.tags.now c.args.self.now (nothing c.args.self.now.rest c.in_default.ensures), refl)

pub returns-then-not-is_among : goal.returns-then-not-is_among
returns-then-not-is_among c =
    let b = begun c.args.self.now.rest c.in-Some.tag c.in-Some.ensures in
    rw c.refusal-then-not-is_among.ensures (whole_not c.args.tags.now c.args.self.now c.in-Some.tag b.0 b.1 (sym c.is_among.ensures ∙ c.if-not-is_among.true), refl)

pub returns : goal.returns
unfolding read
returns c =
    let b = begun c.args.self.now.rest c.in-Some.tag c.in-Some.ensures in
    let starts : starts_list (is_among (Some c.args.tags.now)) c.args.self.now.rest ≡ true = ap (starts_list (is_among (Some c.args.tags.now))) b.1 ∙ sym c.is_among.ensures ∙ c.if-not-is_among.false in
    subst (Reads (λ x. x.now) c.skip_value.result c.args.self.now c.skip_value.new.self) (sym (whole_among c.args.tags.now c.args.self.now starts)) c.skip_value.ensures
