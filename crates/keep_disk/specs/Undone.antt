-- Work of which nothing was done.
use Rattle.std.proofs.Common.{ℕ, List, length, refl, sym, arith}
use Rattle.std.proofs.lemmas.List.{take_all}
use Rattle.keep_disk.specs.Images.{Torn, Shortened}

pub torn_nothing : (at n : ℕ) (file : List ℕ) → Torn at n file file
torn_nothing at n file = record { before = refl; after = refl; no_shorter = omega arith; no_longer = omega arith }

pub shortened_nothing : (n : ℕ) (file : List ℕ) → Shortened n file file
shortened_nothing n file = record { no_shorter = omega arith; front = sym (take_all (length file) file (omega arith)) }
