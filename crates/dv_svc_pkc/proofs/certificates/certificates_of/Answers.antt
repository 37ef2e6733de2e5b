use Rattle.std.proofs.Common.{◌≡◌, ◌≤◌, ◌<◌, ◌++◌, ◌∷◌, ◌∙◌, ℕ, List, [], Bor, Ok, Option, eqb, false, true, length, ap, sym, subst, inl, refl, arith}
use Rattle.std.specs.Prelude.{option_map, option_to_list}
use Rattle.std.specs.Option.{option_copied}
use Rattle.std.proofs.lemmas.List.{append-nil, length-append, length-map, map-append}
use Rattle.dv_schema.proofs.Moves.{moves}
use Rattle.dv_request.specs.PartViews.{view_path, view_token}
use Rattle.dv_request.specs.TargetView.{view_target}
use Rattle.dv_request.specs.Types.{token as token_type}
use Rattle.dv_request.specs.declared.token.Token.{Token}
use Rattle.dv_svc_pkc.specs.Slices.{octets_of}
use Rattle.dv_svc_pkc.proofs.Gathered.{Gathers, few_enough, gather_fault, gather_first, gather_last, gather_next, no_more, or_empty, too_many}
use Rattle.dv_svc_pkc.proofs.certificates.certificates_of.Goals as goal

pub loop-next-init : goal.loop-next-init
loop-next-init c =
    let t = c.args.target.now in
    let own : Bor (List ℕ) = c.in-Certificate.own in
    let items : c.push.new.self.items ≡ own ∷ [] = c.in_ok-push.ensures.items ∙ ap (λ (l : List (Bor (List ℕ))). l ++ own ∷ []) c.new-certificates.ensures.items in
    let rest = or_empty t.links _ c.unwrap_or.result c.unwrap_or.ensures refl in
    let at = c.new-next.ensures ∙ ap (λ (l : List ℕ). record { levels = 32; place = 0; rest = l }) rest in
    let first = gather_first (view_token t.target) own.now (option_copied t.links) (option_map view_path t.input) c.new-next.result (ap view_token c.in-Certificate.is) at t.spelled in
    record {
      gathers = subst (λ (l : List (Bor (List ℕ))). Gathers (view_target t) (octets_of l) c.new-next.result) (sym items) first;
      few = omega (arith, ap length items);
    }

pub unreachable-requires : goal.unreachable-requires
unreachable-requires c =
    let some : eqb (length c.loop-next.next.rest) 0 ≡ false = sym c.at_end.ensures ∙ c.loop-next-test.true in
    gather_fault (view_target c.args.target.now) (octets_of c.loop-next.certificates.items) c.loop-next.next c.in-Err.field-0 some c.in-Err.ensures.0 c.loop-next.invariant.gathers

pub returns-then-len-gt-CHAIN_LIMIT : goal.returns-then-len-gt-CHAIN_LIMIT
returns-then-len-gt-CHAIN_LIMIT c =
    let t = view_target c.args.target.now in
    let octets : Bor (List ℕ) = c.in-Certificate-token.octets in
    let gathered : List (List ℕ) = octets_of c.loop-next.certificates.items in
    let some : eqb (length c.loop-next.next.rest) 0 ≡ false = sym c.at_end.ensures ∙ c.loop-next-test.true in
    let next = gather_next t gathered c.loop-next.next c.read.new.c (inl octets.now) some (c.in-Ok.ensures ∙ ap (λ (x : Token). Ok (view_token x, c.read.new.c)) c.in-Certificate-token.is) c.loop-next.invariant.gathers in
    let size = length-map c.loop-next.certificates.items (λ s. s.now) in
    let long : 16 < length (gathered ++ octets.now ∷ []) = omega (arith, size, length-append gathered (octets.now ∷ []), c.len.ensures, c.if-len-gt-CHAIN_LIMIT.true, c.loop-next.certificates.ok) in
    too_many t (gathered ++ octets.now ∷ []) c.read.new.c long next

pub loop-next-smaller-in-Continue-branch-2 : goal.loop-next-smaller-in-Continue-branch-2
loop-next-smaller-in-Continue-branch-2 c = (moves token_type c.loop-next.next (view_token c.in-Ok.token, c.read.new.c) c.in-Ok.ensures).less

pub loop-next-preserved-in-Continue-branch-2 : goal.loop-next-preserved-in-Continue-branch-2
loop-next-preserved-in-Continue-branch-2 c =
    let t = view_target c.args.target.now in
    let octets : Bor (List ℕ) = c.in-Certificate-token.octets in
    let gathered : List (List ℕ) = octets_of c.loop-next.certificates.items in
    let some : eqb (length c.loop-next.next.rest) 0 ≡ false = sym c.at_end.ensures ∙ c.loop-next-test.true in
    let next = gather_next t gathered c.loop-next.next c.read.new.c (inl octets.now) some (c.in-Ok.ensures ∙ ap (λ (x : Token). Ok (view_token x, c.read.new.c)) c.in-Certificate-token.is) c.loop-next.invariant.gathers in
    let more = ap octets_of c.in_ok-push-2.ensures.items ∙ map-append (λ s. s.now) c.loop-next.certificates.items (octets ∷ []) in
    record {
      gathers = subst (λ (l : List (List ℕ)). Gathers t l c.read.new.c) (sym more) next;
      few = omega (arith, ap length c.in_ok-push-2.ensures.items, length-append c.loop-next.certificates.items (octets ∷ []), c.len.ensures, c.if-len-gt-CHAIN_LIMIT.false, c.loop-next.certificates.ok);
    }

pub loop-next-smaller : goal.loop-next-smaller
loop-next-smaller c = (moves token_type c.loop-next.next (view_token c.in-Ok.token, c.read.new.c) c.in-Ok.ensures).less

pub loop-next-preserved : goal.loop-next-preserved
loop-next-preserved c =
    let t = view_target c.args.target.now in
    let gathered : List (List ℕ) = octets_of c.loop-next.certificates.items in
    let some : eqb (length c.loop-next.next.rest) 0 ≡ false = sym c.at_end.ensures ∙ c.loop-next-test.true in
    let next = gather_next t gathered c.loop-next.next c.read.new.c (view_token c.in-Ok.token) some c.in-Ok.ensures c.loop-next.invariant.gathers in
    let none = no_more c.in-Ok.token c.in_default-token.not-Certificate in
    let same = ap (λ (o : Option (List ℕ)). gathered ++ option_to_list o) none ∙ append-nil gathered in
    record {
      gathers = subst (λ (l : List (List ℕ)). Gathers t l c.read.new.c) same next;
      few = c.loop-next.invariant.few;
    }

pub returns : goal.returns
returns c =
    let t = c.args.target.now in
    let gathered : List (List ℕ) = octets_of c.loop-next.certificates.items in
    let none : eqb (length c.loop-next.next.rest) 0 ≡ true = sym c.at_end.ensures ∙ c.loop-next-test.false in
    let same = gather_last (view_target t) gathered c.loop-next.next none c.loop-next.invariant.gathers in
    let few : length gathered ≤ 16 = omega (arith, c.loop-next.invariant.few, length-map c.loop-next.certificates.items (λ s. s.now)) in
    (few_enough (view_token t.target) c.in-Certificate.own.now (option_copied t.links) (option_map view_path t.input) gathered (ap view_token c.in-Certificate.is) few same, same)
