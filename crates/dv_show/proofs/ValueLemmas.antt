-- One value of a file, as it is read.
use Rattle.std.proofs.Common.{◌≡◌, ◌∙◌, ◌+◌, ◌<◌, length, ◌≤◌, ◌++◌, ℕ, List, Ok, Result, true, refl, sym, ap, subst, arith}
use Rattle.std.specs.Prelude.{IfSome, IsOkAnd, Option, Some}
use Rattle.std.proofs.lemmas.List.{length-append}
use Rattle.std.specs.Str.{bytes_eq}
use Rattle.std.proofs.lemmas.Slice.Eq.{bytes_eq-Decides}
use Rattle.dv_schema.specs.declared.refusal.Der.{Der}
use Rattle.dv_schema.specs.Schema.{ValueOf, spelling}
use Rattle.dv_schema.specs.Fits.{Fits}
use Rattle.dv_schema.specs.Reading.{Spot}
use Rattle.dv_schema.specs.Decodes.{Decodes}
use Rattle.dv_cms.specs.declared.content_info.ContentInfo.{ContentInfo}
use Rattle.dv_cms.specs.Types.{content_info}
use Rattle.dv_cms.specs.Views.{view_content_info}
use Rattle.dv_show.specs.declared.shown.Shown.{Shown}
use Rattle.dv_show.specs.Values.{IsShown, IsValueOf}
use Rattle.dv_show.proofs.SizeLemmas.{message_long}

-- a test of a type that held
pub same_type : (a b : List ℕ) → true ≡ bytes_eq a b → a ≡ b
same_type a b e = (bytes_eq-Decides a b).0 (sym e)

-- a decoder that began at a copy of a cursor
pub from_start : (r : Result ContentInfo Der) (copy start new : Spot) → copy ≡ start → Decodes content_info view_content_info r copy new → Decodes content_info view_content_info r start new
from_start r copy start new same d = subst (λ (p : Spot). Decodes content_info view_content_info r p new) same d

module _ (m : ContentInfo) (old new : Spot) (d : Decodes content_info view_content_info (Ok m) old new) where
  -- its content and what follows it are shorter than what was left
  pub shorter_read : length m.content.now + length new.rest < length old.rest
  shorter_read =
      let message : ValueOf content_info = (m.oid.now, ((m.content.now, tt), tt)) in
      let all : length old.rest ≡ length (spelling content_info message) + length new.rest = ap length d.found.1 ∙ length-append (spelling content_info message) new.rest in
      omega (arith, all, message_long m.oid.now m.content.now)

  -- its content stands in front of the place that it was read up to
  pub placed_behind : length m.content.now ≤ new.place
  placed_behind = let place = d.found.2 in omega (arith, place, message_long m.oid.now m.content.now)

  -- what was read is the value
  pub is_shown : (value : Shown) → old.levels ≡ 32 → IsValueOf value m.oid.now m.content.now → (octets : List ℕ) × IsShown value octets × (old.rest ≡ octets ++ new.rest)
  is_shown value levels holds =
      let message : ValueOf content_info = (m.oid.now, ((m.content.now, tt), tt)) in (
        spelling content_info message,
        record {
          type = m.oid.now;
          content = m.content.now;
          fits = subst (λ (n : ℕ). Fits content_info n message) levels d.found.0;
          spelled = refl;
          holds = holds;
        },
        d.found.1,
      )

-- what a message was found to hold
pub held_in : (found : Option Shown) (value : Shown) (type content : List ℕ) → found ≡ Some value → IfSome found (λ v. IsValueOf v type content) → IsValueOf value type content
held_in found value type content same h = subst (λ (o : Option Shown). IfSome o (λ v. IsValueOf v type content)) same h

module _ {value : Shown} {octets : List ℕ} (q : IsShown value octets) where
  -- the message that is read where a value comes next
  pub message_read : (r : Result ContentInfo Der) (old new : Spot) (rest : List ℕ) → Decodes content_info view_content_info r old new → old.levels ≡ 32 → old.rest ≡ octets ++ rest
      → IsOkAnd r (λ m. view_content_info m ≡ (q.type, ((q.content, tt), tt))) × (new.rest ≡ rest)
  message_read r old new rest d levels e =
      let message : ValueOf content_info = (q.type, ((q.content, tt), tt)) in
      d.only message rest (subst (λ (n : ℕ). Fits content_info n message) (sym levels) q.fits) (e ∙ ap (λ (o : List ℕ). o ++ rest) q.spelled)

  -- its type and its content are those of the value
  pub value_held : (m : ContentInfo) → view_content_info m ≡ (q.type, ((q.content, tt), tt)) → IsValueOf value m.oid.now m.content.now
  value_held m e = subst (λ (v : ValueOf content_info). IsValueOf value v.0 v.1.0.0) (sym e) q.holds
