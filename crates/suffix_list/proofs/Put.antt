-- What a table holds after a text was put in.
use Rattle.std.proofs.Common.{◌≡◌, Bool, true, false, cond, ◌||◌, refl, ap}

pub cond_or : (b c : Bool) → cond b true c ≡ (b || c)
cond_or true c = refl
cond_or false c = refl

pub cond_apart : (b c : Bool) → b ≡ false → cond b true c ≡ c
cond_apart b c h = ap (λ v. cond v true c) h
