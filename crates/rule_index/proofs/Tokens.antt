-- The token of a filter.
use Rattle.std.proofs.Common.{◌≡◌, ℕ, ◌<◌, List, [], ◌∷◌, length, cond, Some, None, refl, sym, arith}
use Rattle.dnr_spec.specs.Domains.{lower_case}
use Rattle.index_spec.specs.Words.{is_filled}

-- a word that has a byte is the token
pub token_told : (token longest : List ℕ) → lower_case token ≡ longest → 0 < length token → Some (lower_case token) ≡ cond (is_filled longest) (Some longest) None
token_told [] longest is some = absurd (omega arith)
token_told (b ∷ token) longest is some = rw (sym is) refl

pub no_token : (token longest : List ℕ) → lower_case token ≡ longest → length token ≡ 0 → None ≡ cond (is_filled longest) (Some longest) None
no_token [] longest is none = rw (sym is) refl
no_token (b ∷ token) longest is none = absurd (omega arith)
