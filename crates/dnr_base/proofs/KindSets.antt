-- The kinds have places, and sets of the same kinds are equal.
use Rattle.std.proofs.Common.{◌≡◌, ℕ, zero, suc, ◌^◌, ◌<◌, true, not, refl, ap, subst, arith, lit<, lit≤}
use Rattle.std.proofs.Math.Bridge.{le_prop}
use Rattle.dnr_base.specs.declared.kind.Kind.{Kind}
use Rattle.dnr_base.specs.declared.kind.Kind.TheVariants.{MainFrame, SubFrame, Stylesheet, Script, Image, Font, Object, XmlHttpRequest, Ping, CspReport, Media, WebSocket, WebTransport, WebBundle, Other}
use Rattle.dnr_base.specs.Kind.{all_kinds, place_of, has_kind, default_kinds, same_kind}
use Rattle.dnr_base.specs.KindSet.{kinds_of}
use Rattle.dnr_base.specs.declared.kind_set.KindSet.{KindSet}
use Rattle.dnr_base.proofs.BitSets.{IsListed, same_bits}

-- each is one of all
pub has_kind-all_kinds : (kind : Kind) → has_kind all_kinds kind ≡ true
has_kind-all_kinds MainFrame = refl
has_kind-all_kinds SubFrame = refl
has_kind-all_kinds Stylesheet = refl
has_kind-all_kinds Script = refl
has_kind-all_kinds Image = refl
has_kind-all_kinds Font = refl
has_kind-all_kinds Object = refl
has_kind-all_kinds XmlHttpRequest = refl
has_kind-all_kinds Ping = refl
has_kind-all_kinds CspReport = refl
has_kind-all_kinds Media = refl
has_kind-all_kinds WebSocket = refl
has_kind-all_kinds WebTransport = refl
has_kind-all_kinds WebBundle = refl
has_kind-all_kinds Other = refl

-- only `main_frame` is not one of the default types
pub has_kind-default_kinds : (kind : Kind) → has_kind default_kinds kind ≡ not (same_kind kind MainFrame)
has_kind-default_kinds MainFrame = refl
has_kind-default_kinds SubFrame = refl
has_kind-default_kinds Stylesheet = refl
has_kind-default_kinds Script = refl
has_kind-default_kinds Image = refl
has_kind-default_kinds Font = refl
has_kind-default_kinds Object = refl
has_kind-default_kinds XmlHttpRequest = refl
has_kind-default_kinds Ping = refl
has_kind-default_kinds CspReport = refl
has_kind-default_kinds Media = refl
has_kind-default_kinds WebSocket = refl
has_kind-default_kinds WebTransport = refl
has_kind-default_kinds WebBundle = refl
has_kind-default_kinds Other = refl

place_below : (kind : Kind) → place_of kind < 15
place_below MainFrame = lit< tt
place_below SubFrame = lit< tt
place_below Stylesheet = lit< tt
place_below Script = lit< tt
place_below Image = lit< tt
place_below Font = lit< tt
place_below Object = lit< tt
place_below XmlHttpRequest = lit< tt
place_below Ping = lit< tt
place_below CspReport = lit< tt
place_below Media = lit< tt
place_below WebSocket = lit< tt
place_below WebTransport = lit< tt
place_below WebBundle = lit< tt
place_below Other = lit< tt

kind_at : (place : ℕ) → place < 15 → (kind : Kind) × (place_of kind ≡ place)
kind_at zero small = (MainFrame, refl)
kind_at (suc zero) small = (SubFrame, refl)
kind_at (suc (suc zero)) small = (Stylesheet, refl)
kind_at (suc (suc (suc zero))) small = (Script, refl)
kind_at (suc (suc (suc (suc zero)))) small = (Image, refl)
kind_at (suc (suc (suc (suc (suc zero))))) small = (Font, refl)
kind_at (suc (suc (suc (suc (suc (suc zero)))))) small = (Object, refl)
kind_at (suc (suc (suc (suc (suc (suc (suc zero))))))) small = (XmlHttpRequest, refl)
kind_at (suc (suc (suc (suc (suc (suc (suc (suc zero)))))))) small = (Ping, refl)
kind_at (suc (suc (suc (suc (suc (suc (suc (suc (suc zero))))))))) small = (CspReport, refl)
kind_at (suc (suc (suc (suc (suc (suc (suc (suc (suc (suc zero)))))))))) small = (Media, refl)
kind_at (suc (suc (suc (suc (suc (suc (suc (suc (suc (suc (suc zero))))))))))) small = (WebSocket, refl)
kind_at (suc (suc (suc (suc (suc (suc (suc (suc (suc (suc (suc (suc zero)))))))))))) small = (WebTransport, refl)
kind_at (suc (suc (suc (suc (suc (suc (suc (suc (suc (suc (suc (suc (suc zero))))))))))))) small = (WebBundle, refl)
kind_at (suc (suc (suc (suc (suc (suc (suc (suc (suc (suc (suc (suc (suc (suc zero)))))))))))))) small = (Other, refl)
kind_at (suc (suc (suc (suc (suc (suc (suc (suc (suc (suc (suc (suc (suc (suc (suc place))))))))))))))) small = absurd (omega (arith, small))

pub kinds_listed : IsListed place_of all_kinds 15
kinds_listed = record { complete = has_kind-all_kinds; below = place_below; at = kind_at; few = lit≤ tt }

abbrev the_set : (bits : ℕ) → bits < 2 ^ 15 → KindSet
the_set bits alone = record { bits = bits; types_alone = alone }

same_fields : (a b : ℕ) (p : a < 2 ^ 15) (q : b < 2 ^ 15) → a ≡ b → the_set a p ≡ the_set b q
same_fields a b p q same = subst (λ c. (r : c < 2 ^ 15) → the_set a p ≡ the_set c r) same (λ r. ap (the_set a) (le_prop p r)) q

pub same_set : (one other : KindSet) → kinds_of one ≡ kinds_of other → one ≡ other
unfolding kinds_of
same_set one other same =
    same_fields one.bits other.bits one.types_alone other.types_alone
    (same_bits place_of all_kinds 15 kinds_listed one.bits other.bits one.types_alone other.types_alone same)
