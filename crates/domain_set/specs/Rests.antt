-- The rests of a host: what follows each of its dots.
use Rattle.std.specs.Prelude.{ℕ, List, [], ◌∷◌, Bool, false, not, ◌==◌, ◌&&◌, ◌||◌}
use Rattle.dnr_spec.specs.Hosts.{is_ip_host}

-- a rest passes the test
abbrev pub some_rest : (List ℕ → Bool) → List ℕ → Bool
some_rest test [] = false
some_rest test (b ∷ rest) = (b == 46 && test rest) || some_rest test rest

-- the host passes the test, or it is no IP host and a rest of it does
abbrev pub covers_by : (List ℕ → Bool) → List ℕ → Bool
covers_by test host = test host || (not (is_ip_host host) && some_rest test host)
