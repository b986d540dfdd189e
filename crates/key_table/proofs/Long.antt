-- A key that is longer than each of a table has no place.
use Rattle.std.proofs.Common.{◌≡◌, ℕ, ◌+◌, ◌-◌, ◌<◌, ◌≤◌, List, [], length, drop, get_or, Option, ap, arith, length-take, length-drop}
use Rattle.key_table.specs.declared.entry.Entry.{Entry}
use Rattle.key_table.specs.Kept.{AreEntries, HaveAtMost, IsEntry, key_in, pairs_in}
use Rattle.key_table.specs.Pairs.{near_of}
use Rattle.key_table.proofs.Between.{none_here}

key_long : (texts : List ℕ) (entry : Entry) → IsEntry texts entry → length (key_in texts entry) ≡ entry.len
key_long texts entry is =
    let within : entry.at + entry.len ≤ length texts = is.within in
    omega (arith, length-take (entry.at + entry.len - entry.at) (drop entry.at texts), length-drop entry.at texts)

pub none_so_long : (texts key : List ℕ) (shown : Option ℕ) (entries : List Entry) (longest : ℕ) → AreEntries texts entries → HaveAtMost longest entries → longest < length key
    → near_of key shown (pairs_in texts entries) ≡ []
none_so_long texts key shown entries longest all few long =
    none_here texts key shown entries (λ k d low within same.
    let own : length (key_in texts (get_or entries k d)) ≡ (get_or entries k d).len = key_long texts (get_or entries k d) (all k d within) in
    let few_here : (get_or entries k d).len ≤ longest = few k d within in
    let here : length (key_in texts (get_or entries k d)) ≡ length key = ap length same in
    omega arith)
