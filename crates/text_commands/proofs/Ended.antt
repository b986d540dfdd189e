-- How a command may end, by what was read and written on the way.
use Rattle.std.proofs.Common.{◌≡◌, List, [], ℕ, ◌++◌, Option, Some, None, refl, sym, inl, inr, append-nil, subst, string_bytes}
use Rattle.std.specs.Io.KnownBytes.{Appends}
use Rattle.dnr_base.specs.Faults.{Rose, Count}
use Rattle.dnr_io.specs.Sink.{AppendsPart}
use Rattle.dnr_spec.specs.declared.status.Status.{Status}
use Rattle.dnr_spec.specs.declared.status.Status.TheVariants as status
use Rattle.session_load.specs.declared.stop.Stop.{Stop}
use Rattle.session_load.specs.declared.stop.Stop.TheVariants as stop
use Rattle.session_load.specs.Stops.{Prints, StopsAs}
use Rattle.session_spec.specs.Out.{Outside, Conduct, IsBeginning, EndsBy}
use Rattle.text_commands.specs.Ends.{IsRun, EndsAtOnce, EndsText, EndsStop, EndsWith}

-- ---- what was written

nothing_written : (taken : Option (List ℕ)) → Appends taken taken []
nothing_written None = tt
nothing_written (Some bytes) = sym (append-nil bytes)

pub still_nothing : (before now : Option (List ℕ)) → now ≡ before → Appends before now []
still_nothing before now same = subst (λ (taken : Option (List ℕ)). Appends before taken []) (sym same) (nothing_written before)

begins : (May : List ℕ → Type 0) (before now : Option (List ℕ)) (text : List ℕ) → May text → (part : AppendsPart before now text) → IsBeginning May part.sent
begins May before now text whole part = record { rest = part.rest; whole = subst (λ (l : List ℕ). May l) part.split whole }

run_as : (o : Outside) (k : Conduct) (before now : Option (List ℕ)) (all ended : Status) → ended ≡ all → IsRun before now (EndsBy o k all) → IsRun before now (EndsBy o k ended)
run_as o k before now all ended is run = subst (λ (s : Status). IsRun before now (EndsBy o k s)) (sym is) run

pub done_ends : (o : Outside) (k : Conduct) (before now : Option (List ℕ)) (text : List ℕ) (ended : Status) → k.Done text → k.Meanwhile text
    → EndsText before now o.sink text status.Done ended → IsRun before now (EndsBy o k ended)
done_ends o k before now text ended whole meanwhile (inl (is, taken)) = run_as o k before now status.Done ended is (text, taken, whole)
done_ends o k before now text ended whole meanwhile (inr (is, rose, part)) =
    run_as o k before now status.WriteFault ended is (part.sent, part.taken, (rose, begins k.Meanwhile before now text meanwhile part))

pub refused_ends : (o : Outside) (k : Conduct) (before now : Option (List ℕ)) (text : List ℕ) (ended : Status) → k.Refused text → k.Meanwhile text
    → EndsText before now o.sink text status.Refused ended → IsRun before now (EndsBy o k ended)
refused_ends o k before now text ended whole meanwhile (inl (is, taken)) = run_as o k before now status.Refused ended is (text, taken, whole)
refused_ends o k before now text ended whole meanwhile (inr (is, rose, part)) =
    run_as o k before now status.WriteFault ended is (part.sent, part.taken, (rose, begins k.Meanwhile before now text meanwhile part))

pub memory_ends : (o : Outside) (k : Conduct) (before now : Option (List ℕ)) (ended : Status) → ended ≡ status.NoMemory → now ≡ before → IsRun before now (EndsBy o k ended)
memory_ends o k before now ended is same = run_as o k before now status.NoMemory ended is ([], still_nothing before now same, inl refl)

-- the text is what the command writes to the last byte
pub text_ends : (o : Outside) (k : Conduct) (before now : Option (List ℕ)) (text : List ℕ) (ended : Status) → k.Done text → k.Meanwhile text
    → EndsWith before now o.sink text ended → IsRun before now (EndsBy o k ended)
text_ends o k before now text ended whole meanwhile (inl written) = done_ends o k before now text ended whole meanwhile written
text_ends o k before now text ended whole meanwhile (inr (is, same)) = memory_ends o k before now ended is same

-- a run stops before it answers
pub stop_ends : (o : Outside) (k : Conduct) (TooLong : Type 0) (before now : Option (List ℕ)) (s : Stop) (ended : Status) → ((line : List ℕ) → k.Refused line → k.Meanwhile line) → (TooLong → k.TooLong []) → k.Unread []
    → StopsAs k.Refused TooLong s → (s ≡ stop.ReadFault → Rose o.shelf.before o.shelf.now) → EndsStop before now o.sink s ended → IsRun before now (EndsBy o k ended)
stop_ends o k TooLong before now (stop.Refused line) ended meanwhile long unread why fault ends = refused_ends o k before now (string_bytes line) ended why (meanwhile (string_bytes line) why) ends
stop_ends o k TooLong before now stop.ReadFault ended meanwhile long unread why fault (is, same) =
    run_as o k before now status.ReadFault ended is ([], still_nothing before now same, (fault refl, unread))
stop_ends o k TooLong before now stop.FileTooLong ended meanwhile long unread why fault (is, same) =
    run_as o k before now status.FileTooLong ended is ([], still_nothing before now same, long why)
stop_ends o k TooLong before now stop.NoMemory ended meanwhile long unread why fault (is, same) = memory_ends o k before now ended is same

-- ---- what was read

-- the line that says what is refused was written, unless memory ran out for it
pub refused_once : (Prints_text Refuses : List ℕ → Type 0) (line : List ℕ) (s : Stop) (before now : Option (List ℕ)) (sink : Count) (ended : Status)
    → Prints line s → Refuses line → EndsStop before now sink s ended → EndsAtOnce Prints_text Refuses before now sink ended
refused_once Prints_text Refuses line (stop.Refused text) before now sink ended prints refused ends = inr (inl (string_bytes text, subst Refuses (sym prints) refused, ends))
refused_once Prints_text Refuses line stop.ReadFault before now sink ended prints refused ends = absurd prints
refused_once Prints_text Refuses line stop.FileTooLong before now sink ended prints refused ends = absurd prints
refused_once Prints_text Refuses line stop.NoMemory before now sink ended prints refused ends = inr (inr ends)

-- a text was written that is as it should be, or memory ran out for it
pub written_once : (Prints_text Refuses : List ℕ → Type 0) (text : List ℕ) (before now : Option (List ℕ)) (sink : Count) (ended : Status)
    → Prints_text text → EndsWith before now sink text ended → EndsAtOnce Prints_text Refuses before now sink ended
written_once Prints_text Refuses text before now sink ended prints (inl written) = inl (text, prints, written)
written_once Prints_text Refuses text before now sink ended prints (inr memory) = inr (inr memory)

pub once_ends : (o : Outside) (k : Conduct) (before now : Option (List ℕ)) (ended : Status) (Prints_text Refuses : List ℕ → Type 0)
    → ((text : List ℕ) → Prints_text text → k.Done text) → ((line : List ℕ) → Refuses line → k.Refused line)
    → ((text : List ℕ) → k.Done text → k.Meanwhile text) → ((line : List ℕ) → k.Refused line → k.Meanwhile line)
    → EndsAtOnce Prints_text Refuses before now o.sink ended → IsRun before now (EndsBy o k ended)
once_ends o k before now ended Prints_text Refuses done refused whole line (inl (text, prints, ends)) =
    done_ends o k before now text ended (done text prints) (whole text (done text prints)) ends
once_ends o k before now ended Prints_text Refuses done refused whole line (inr (inl (said, refuses, ends))) =
    refused_ends o k before now said ended (refused said refuses) (line said (refused said refuses)) ends
once_ends o k before now ended Prints_text Refuses done refused whole line (inr (inr (is, same))) = memory_ends o k before now ended is same
