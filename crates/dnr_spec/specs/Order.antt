-- Which rule decides: Chrome's reference, "Rule prioritization", inside an extension and across extensions. What
-- the reference leaves open inside an extension goes by the rule's rank and id.
use Rattle.std.specs.Prelude.{ℕ, ◌+◌, List, [], ◌∷◌, Bool, false, not, ◌==◌, nat_lt, Option, position, if◌then◌else◌}
use Rattle.std.specs.List.{list_any}
use Rattle.dnr_base.specs.declared.verb.Verb.{Verb}
use Rattle.dnr_base.specs.declared.verb.Verb.TheVariants.{Allow, AllowAllRequests, Block, UpgradeScheme, Redirect}
use Rattle.dnr_base.specs.declared.rank.Rank.{Rank}
use Rattle.dnr_base.specs.declared.rank.Rank.TheVariants.{Session, Dynamic, Static}
use Rattle.dnr_base.specs.declared.candidate.Candidate.{Candidate}
use Rattle.dnr_base.specs.declared.winner.Winner.{Winner}

-- at the first pair that differs the left number is the smaller
abbrev pub is_before : List (ℕ × ℕ) → Bool
is_before [] = false
is_before (pair ∷ pairs) = if pair.0 == pair.1 then is_before pairs else nat_lt pair.0 pair.1

-- the place of the one that no other beats
abbrev pub unbeaten : {X : Type 0} → (X → X → Bool) → List X → Option ℕ
unbeaten beats list = position (λ x. not (list_any (λ other. beats other x) list)) list

-- ---- inside an extension

-- the order of the actions at equal priority
abbrev pub place_of : Verb → ℕ
place_of Allow = 0
place_of AllowAllRequests = 1
place_of Block = 2
place_of UpgradeScheme = 3
place_of Redirect = 4

-- session rules, then dynamic ones, then those of the static rulesets in their order
abbrev pub rank_of : Rank → ℕ
rank_of Session = 0
rank_of Dynamic = 1
rank_of (Static place) = place + 2

-- greater priority; then the order of the actions; then the order of the ranks; then the smaller id
abbrev pub beats : Candidate → Candidate → Bool
beats a b = is_before ((b.priority, a.priority) ∷ (place_of a.action, place_of b.action) ∷ (rank_of a.rank, rank_of b.rank) ∷ (a.id, b.id) ∷ [])

-- the place of the candidate that decides inside an extension
abbrev pub inside : List Candidate → Option ℕ
inside candidates = unbeaten beats candidates

-- ---- across extensions

-- the classes of the actions, of which a block is the best
abbrev pub class_of : Verb → ℕ
class_of Block = 0
class_of UpgradeScheme = 1
class_of Redirect = 1
class_of Allow = 2
class_of AllowAllRequests = 2

-- better class; then the extension that was installed last
abbrev pub prevails : Winner → Winner → Bool
prevails a b = is_before ((class_of a.action, class_of b.action) ∷ (b.age, a.age) ∷ [])

-- the place of the winner that decides across extensions
abbrev pub across : List Winner → Option ℕ
across winners = unbeaten prevails winners
