-- The result of a command, from the results of its calls.
use Rattle.std.proofs.Common.{◌≡◌, ◌∷◌, ◌⊎◌, List, ℕ, [], None, Some, refl, sym, subst, inl, inr, arith}
use Rattle.std.specs.Prelude.{Bool, Contains, Option, String, Result, Ok, Err, IfOk, IfErr, codes, string_bytes}
use Rattle.std.specs.Io.KnownBytes.{Appends}
use Rattle.std.specs.declared.alloc.Global.{Global}
use Rattle.std.proofs.lemmas.List.{append-nil}
use Rattle.std.proofs.KnownBytes.{Appends-nil}
use Rattle.std.specs.Result.{IsErrAnd}
use Rattle.std.proofs.lemmas.Result.{err_from_is_err_and}
use Rattle.burr_io.specs.Sink.{SinkView, Puts}
use Rattle.burr_runs.specs.declared.input.BenchFault.{BenchFault}
use Rattle.burr_runs.specs.declared.input.BenchFault.TheVariants as bench
use Rattle.burr_runs.specs.Views.ReadWhole.{ReadFails}
use Rattle.burr_judge.specs.declared.fault.Fault.{Fault}
use Rattle.burr_judge.specs.declared.status.Status.{Status}
use Rattle.burr_judge.specs.declared.status.Status.TheVariants.{Refused}
use Rattle.burr_judge.specs.declared.refused.Refused.{Refused as Refusal}
use Rattle.burr_judge.specs.declared.stop.Stop.{Stop}
use Rattle.burr_judge.specs.declared.stop.Stop.TheVariants as halts
use Rattle.burr_judge.specs.Faults.{cannot_read, cannot_write, complaint_of, line_of, output_failed}
use Rattle.burr_judge.specs.PlanEnds.{Ends, never}
use Rattle.burr_judge.specs.Refusals.{refusal_line, refusal_text}
use Rattle.burr_judge.specs.Stops.{IsFault, Noted, Refuses, ResultOn, StopsBy, noted}
use Rattle.burr_judge.proofs.Common.Results.{refuses_more}
use Rattle.burr_judge.proofs.Common.Stages.{AreAmong}
use Rattle.burr_program.specs.declared.done.Done.{Done as Finished}
use Rattle.burr_program.specs.declared.files.SourceFile.{SourceFile}
use Rattle.burr_program.specs.Commands.{CommandResult, CommandStops, DoneEnds, Dones, IsFileRead, PutsNotes, SilentResult, StopsSilently}
use Rattle.burr_program.specs.FileFaults.{AnyText, CannotRead, CannotRewrite, IsInput, Lines, NoMemory, Unread, Unwritten}

-- A command that prints

pub command_stopped : {S : Type 0} (sink : SinkView S) (before after : S) (AreDone : Dones) (AreEnds : Ends) (Fails Breaks : Lines) (r : Result Finished Stop) (Is : Stop → Type 0)
    → IsErrAnd r Is → ((stop : Stop) → Is stop → CommandStops sink before after AreEnds Fails Breaks stop) → CommandResult sink before after AreDone AreEnds Fails Breaks r
command_stopped sink before after AreDone AreEnds Fails Breaks r Is err stops = let p = err_from_is_err_and r err in rw p.1 (record { done = tt; stops = stops p.0 p.2 })

-- a fault, before anything is printed
pub faulted : {S : Type 0} {sink : SinkView S} {before : S} {AreDone : Dones} {AreEnds : Ends} {Fails Breaks : Lines} {r : Result Finished Stop} (fault : Fault)
    → Fails (line_of fault) → IsErrAnd r (λ stop. stop ≡ halts.Fault fault) → CommandResult sink before before AreDone AreEnds Fails Breaks r
faulted {S} {sink} {before} {AreDone} {AreEnds} {Fails} {Breaks} {r} fault fails err =
    command_stopped sink before before AreDone AreEnds Fails Breaks r _ err (λ stop same. subst (CommandStops sink before before AreEnds Fails Breaks) (sym same) (inr (inl (refl, fails))))

-- the same by its line
pub faulted_so : {S : Type 0} {sink : SinkView S} {before : S} {AreDone : Dones} {AreEnds : Ends} {Fails Breaks : Lines} {r : Result Finished Stop} (line : List ℕ)
    → Fails line → IsErrAnd r (IsFault line) → CommandResult sink before before AreDone AreEnds Fails Breaks r
faulted_so {S} {sink} {before} {AreDone} {AreEnds} {Fails} {Breaks} {r} line fails err = command_stopped sink before before AreDone AreEnds Fails Breaks r (IsFault line) err stops
  where
    stops : (stop : Stop) → IsFault line stop → CommandStops sink before before AreEnds Fails Breaks stop
    stops (halts.Fault fault) is = inr (inl (refl, subst Fails (sym is) fails))
    stops (halts.Refused refused notes) is = absurd is

-- a refusal, before anything is printed
pub refused_so : {S : Type 0} {sink : SinkView S} {before : S} {AreDone : Dones} {AreEnds : Ends} {Fails Breaks : Lines} {r : Result Finished Stop} (Texts : List ℕ → Type 0)
    → ((text : List ℕ) → Texts text → AreEnds text Refused) → ((line : List ℕ) → NoMemory line → Fails line) → IsErrAnd r (Refuses Texts) → CommandResult sink before before AreDone AreEnds Fails Breaks r
refused_so {S} {sink} {before} {AreDone} {AreEnds} {Fails} {Breaks} {r} Texts ends want err = command_stopped sink before before AreDone AreEnds Fails Breaks r (Refuses Texts) err stops
  where
    stops : (stop : Stop) → Refuses Texts stop → CommandStops sink before before AreEnds Fails Breaks stop
    stops (halts.Fault fault) is = inr (inl (refl, want (line_of fault) is.says))
    stops (halts.Refused refused notes) is = (ends (refusal_text refused notes) is.says, refl)

-- a call stops
pub call_stopped : {S : Type 0} {sink : SinkView S} {before after : S} {AreDone : Dones} {These AreEnds : Ends} {Breaks Fails Others : Lines} {r : Result Finished Stop} {stop : Stop}
    → AreAmong These AreEnds → ((line : List ℕ) → NoMemory line → Fails line) → ((line : List ℕ) → Breaks line → Others line) → ResultOn sink before after These Breaks (Err stop) → IsErrAnd r (λ e. e ≡ stop)
    → CommandResult sink before after AreDone AreEnds Fails Others r
call_stopped {S} {sink} {before} {after} {AreDone} {These} {AreEnds} {Breaks} {Fails} {Others} {r} {stop} among want more result err =
    command_stopped sink before after AreDone AreEnds Fails Others r (λ e. e ≡ stop) err (λ e same. subst (CommandStops sink before after AreEnds Fails Others) (sym same) (stops stop result.stops))
  where
    stops : (stop : Stop) → StopsBy sink before after These Breaks stop → CommandStops sink before after AreEnds Fails Others stop
    stops (halts.Refused refused notes) (is, same) = (among (refusal_text refused notes) Refused is, same)
    stops (halts.Fault fault) (inl (inl (line, (output, status, is, fails)))) = inl (line, (output, status, among output status is, fails))
    stops (halts.Fault fault) (inl (inr (line, same))) = inr (inl (same, want (line_of fault) line))
    stops (halts.Fault fault) (inr breaks) = inr (inr (more (line_of fault) breaks))

-- a call is done
pub call_done : {S : Type 0} {sink : SinkView S} {before after : S} {AreDone : Dones} {These AreEnds : Ends} {Breaks Fails Others : Lines} {status : Status} {done : Finished}
    → ((output : List ℕ) → These output status → AreDone output done) → ResultOn sink before after These Breaks (Ok status) → CommandResult sink before after AreDone AreEnds Fails Others (Ok done)
call_done {S} {sink} {before} {after} is result = let (output, ends, takes) = result.done in record { done = (output, is output ends, takes); stops = tt }

-- what is printed is one of the ends, and the sink took it, or failed in it
pub put_done : {S A E : Type 0} {sink : SinkView S} {before after : S} {AreDone : Dones} {AreEnds : Ends} {Fails Breaks : Lines} {output : List ℕ} {done : Finished} {a : A}
    → AreDone output done → Puts {E = E} sink before after output (Ok a) → CommandResult sink before after AreDone AreEnds Fails Breaks (Ok done)
put_done {output = output} is puts = record { done = (output, is, puts.ok); stops = tt }

pub put_fails : {S A E : Type 0} {sink : SinkView S} {before after : S} {AreDone : Dones} {AreEnds : Ends} {Fails Breaks : Lines} {output : List ℕ} (status : Status) {e : E} {r : Result Finished Stop}
    → AreEnds output status → Puts {A = A} sink before after output (Err e) → IsErrAnd r (IsFault output_failed) → CommandResult sink before after AreDone AreEnds Fails Breaks r
put_fails {S} {A} {E} {sink} {before} {after} {AreDone} {AreEnds} {Fails} {Breaks} {output} status {e} {r} is puts err = command_stopped sink before after AreDone AreEnds Fails Breaks r (IsFault output_failed) err stops
  where
    stops : (stop : Stop) → IsFault output_failed stop → CommandStops sink before after AreEnds Fails Breaks stop
    stops (halts.Fault fault) line = inl (line, (output, status, is, puts.err))
    stops (halts.Refused refused notes) line = absurd line

-- notes are put, or the sink failed in them
pub notes_put : {S A E : Type 0} {sink : SinkView S} {before after : S} {text : List ℕ} {a : A}
    → Puts {E = E} sink before after text (Ok a) → PutsNotes sink before after (Ok Refused)
notes_put {text = text} puts = record { done = (text, inl (omega arith), puts.ok); stops = tt }

pub notes_fail : {S A E : Type 0} {sink : SinkView S} {before after : S} {text : List ℕ} {e : E} {r : Result Status Stop}
    → Puts {A = A} sink before after text (Err e) → IsErrAnd r (IsFault output_failed) → PutsNotes sink before after r
notes_fail {S} {A} {E} {sink} {before} {after} {text} {e} {r} puts err =
    let p = err_from_is_err_and r err in rw p.1 (record { done = tt; stops = stops p.0 p.2 })
  where
    stops : (stop : Stop) → IsFault output_failed stop → CommandStops sink before after DoneEnds NoMemory never stop
    stops (halts.Fault fault) line = inl (line, (text, Refused, inl (omega arith), puts.err))
    stops (halts.Refused refused notes) line = absurd line

-- A command that prints nothing

pub silent_stopped : {AreDone : Dones} {AreEnds : Ends} {Fails : Lines} (r : Result Finished Stop) (Is : Stop → Type 0) → IsErrAnd r Is → ((stop : Stop) → Is stop → StopsSilently AreEnds Fails stop) → SilentResult AreDone AreEnds Fails r
silent_stopped r Is err stops = let p = err_from_is_err_and r err in rw p.1 (record { done = tt; stops = stops p.0 p.2 })

pub silent_fault : {AreDone : Dones} {AreEnds : Ends} {Fails : Lines} {r : Result Finished Stop} (fault : Fault) → Fails (line_of fault) → IsErrAnd r (λ stop. stop ≡ halts.Fault fault) → SilentResult AreDone AreEnds Fails r
silent_fault {AreDone} {AreEnds} {Fails} {r} fault fails err = silent_stopped r _ err (λ stop same. subst (StopsSilently AreEnds Fails) (sym same) fails)

pub silent_fault_so : {AreDone : Dones} {AreEnds : Ends} {Fails : Lines} {r : Result Finished Stop} (line : List ℕ) → Fails line → IsErrAnd r (IsFault line) → SilentResult AreDone AreEnds Fails r
silent_fault_so {AreDone} {AreEnds} {Fails} {r} line fails err = silent_stopped r (IsFault line) err stops
  where
    stops : (stop : Stop) → IsFault line stop → StopsSilently AreEnds Fails stop
    stops (halts.Fault fault) is = subst Fails (sym is) fails
    stops (halts.Refused refused notes) is = absurd is

pub silent_refused : {AreDone : Dones} {AreEnds : Ends} {Fails : Lines} {r : Result Finished Stop} (Texts : List ℕ → Type 0) → ((text : List ℕ) → Texts text → AreEnds text Refused)
    → ((line : List ℕ) → NoMemory line → Fails line) → IsErrAnd r (Refuses Texts) → SilentResult AreDone AreEnds Fails r
silent_refused {AreDone} {AreEnds} {Fails} {r} Texts ends want err = silent_stopped r (Refuses Texts) err stops
  where
    stops : (stop : Stop) → Refuses Texts stop → StopsSilently AreEnds Fails stop
    stops (halts.Fault fault) is = want (line_of fault) is.says
    stops (halts.Refused refused notes) is = ends (refusal_text refused notes) is.says

-- its sink is left alone
pub silent_command : {S : Type 0} {sink : SinkView S} {before : S} {AreDone : Dones} {AreEnds : Ends} {Fails Breaks : Lines} {r : Result Finished Stop}
    → SilentResult AreDone AreEnds Fails r → CommandResult sink before before AreDone AreEnds Fails Breaks r
silent_command {sink = sink} {before = before} {r = Ok done} silent = record { done = ([], silent.done, Appends-nil (sink.taken before)); stops = tt }
silent_command {r = Err (halts.Refused refused notes)} silent = record { done = tt; stops = (silent.stops, refl) }
silent_command {r = Err (halts.Fault fault)} silent = record { done = tt; stops = inr (inl (refl, silent.stops)) }

-- Files that fail

-- out of memory, or one that can't be read is one of them
pub read_memory : (names : List (List ℕ)) (line : List ℕ) → NoMemory line → CannotRead names line
read_memory names line want = record { because = inr want }

pub unread_among : (names : List (List ℕ)) (name line : List ℕ) → Contains names name → Unread name line → CannotRead names line
unread_among names name line is fails = among fails.because
  where
    among : (line ≡ cannot_read name) ⊎ NoMemory line → CannotRead names line
    among (inl same) = record { because = inl (name, is, same) }
    among (inr want) = record { because = inr want }

pub unread : {S : Type 0} {sink : SinkView S} {before : S} {AreDone : Dones} {AreEnds : Ends} {Breaks : Lines} {r : Result Finished Stop} {names : List (List ℕ)} (fault : Fault) (name : List ℕ)
    → Contains names name → Unread name (line_of fault) → IsErrAnd r (λ stop. stop ≡ halts.Fault fault) → CommandResult sink before before AreDone AreEnds (CannotRead names) Breaks r
unread {names = names} fault name is fails = faulted fault (unread_among names name (line_of fault) is fails)

-- standard input can't be read, after two files
pub stdin_unread : {S : Type 0} {sink : SinkView S} {before : S} {AreDone : Dones} {AreEnds : Ends} {Breaks : Lines} {r : Result Finished Stop} (old new : Option (List ℕ)) (failed : Bool) (assembly plan : List ℕ) (fault : BenchFault)
    → ReadFails old new failed fault → IsErrAnd r (IsFault (complaint_of fault)) → CommandResult sink before before AreDone AreEnds (CannotRead (assembly ∷ plan ∷ codes "-" ∷ [])) Breaks r
stdin_unread old new failed assembly plan bench.Read fails = faulted_so _ (record { because = inl (codes "-", (2, omega arith, refl), refl) })
stdin_unread old new failed assembly plan bench.TooLong fails = faulted_so _ (record { because = inl (codes "-", (2, omega arith, refl), refl) })
stdin_unread old new failed assembly plan bench.Memory fails = faulted_so _ (record { because = inr refl })
stdin_unread old new failed assembly plan bench.Write fails = absurd fails

-- the same of a command that writes a file
pub rewrite_memory : (names words : List (List ℕ)) (out line : List ℕ) → NoMemory line → CannotRewrite names words out line
rewrite_memory names words out line want = record { because = inl (read_memory names line want) }

pub rewrite_unread : {names words : List (List ℕ)} {name out line : List ℕ} → Contains names name → Unread name line → CannotRewrite names words out line
rewrite_unread {names} {words} {name} {out} {line} is fails = record { because = inl (unread_among names name line is fails) }

pub rewrite_unwritten : {names words : List (List ℕ)} {out line : List ℕ} → Unwritten out line → CannotRewrite names words out line
rewrite_unwritten {names} {words} {out} {line} fails = among fails.because
  where
    among : (line ≡ cannot_write out) ⊎ NoMemory line → CannotRewrite names words out line
    among (inl same) = record { because = inr (inl same) }
    among (inr want) = rewrite_memory names words out line want

pub rewrite_input : (names words : List (List ℕ)) (out line : List ℕ) → IsInput words out line → CannotRewrite names words out line
rewrite_input names words out line is = record { because = inr (inr is) }

-- a command stops at its notes
pub notes_stop : {S : Type 0} {sink : SinkView S} {before after : S} {AreDone : Dones} {names words : List (List ℕ)} {out : List ℕ} {r : Result Finished Stop} {stop : Stop}
    → PutsNotes sink before after (Err stop) → IsErrAnd r (λ e. e ≡ stop) → CommandResult sink before after AreDone DoneEnds (CannotRewrite names words out) never r
notes_stop {S} {sink} {before} {after} {AreDone} {names} {words} {out} {r} {stop} result err =
    command_stopped sink before after AreDone DoneEnds (CannotRewrite names words out) never r (λ e. e ≡ stop) err
    (λ e same. subst (CommandStops sink before after DoneEnds (CannotRewrite names words out) never) (sym same) (stops stop result.stops))
  where
    stops : (stop : Stop) → CommandStops sink before after DoneEnds NoMemory never stop → CommandStops sink before after DoneEnds (CannotRewrite names words out) never stop
    stops (halts.Refused refused notes) is = is
    stops (halts.Fault fault) (inl fails) = inl fails
    stops (halts.Fault fault) (inr (inl (same, want))) = inr (inl (same, rewrite_memory names words out (line_of fault) want))
    stops (halts.Fault fault) (inr (inr breaks)) = absurd breaks

-- what was put since there was nothing is all that is kept
pub all_kept : (AreEnds : Ends) (old new : Option (List ℕ)) (bytes : List ℕ) (status : Status) → old ≡ Some [] → new ≡ Some bytes
    → ((output : List ℕ) × AreEnds output status × Appends old new output) → AreEnds bytes status
all_kept AreEnds old new bytes status first last (output, is, took) =
    let same : Appends (Some []) (Some bytes) output =
    subst (λ (o : Option (List ℕ)). Appends o (Some bytes) output) first (subst (λ (n : Option (List ℕ)). Appends old n output) last took) in
    subst (λ (b : List ℕ). AreEnds b status) (sym same) is

-- the refusal of a call that prints
pub kept_refuses : {S : Type 0} {sink : SinkView S} {before after : S} {AreEnds : Ends} {Breaks : List ℕ → Type 0} (stop : Stop) (refused : Refusal) (notes : Option (String Global)) → stop ≡ halts.Refused refused notes
    → ResultOn sink before after AreEnds Breaks (Err stop) → Refuses (λ text. AreEnds text Refused) (halts.Refused refused notes)
kept_refuses {sink = sink} {before = before} {after = after} {AreEnds = AreEnds} {Breaks = Breaks} stop refused notes same result =
    let said = subst (StopsBy sink before after AreEnds Breaks) same result.stops in
    record { says = said.0 }

-- a call refuses something, or is out of memory
pub refuses_any : {A : Type 0} (Texts : List ℕ → Type 0) (r : Result A Stop) {stop : Stop} → Refuses Texts stop → IsErrAnd r (λ e. e ≡ stop) → IfErr r (Refuses AnyText)
refuses_any Texts r {stop} refuses err = let p = err_from_is_err_and r err in rw p.1 (subst (Refuses AnyText) (sym p.2) (refuses_more Texts AnyText stop (λ text is. tt) refuses))

pub any_refused : {A : Type 0} (Texts : List ℕ → Type 0) (r : Result A Stop) → IsErrAnd r (Refuses Texts) → IfErr r (Refuses AnyText)
any_refused Texts r err = let p = err_from_is_err_and r err in rw p.1 (refuses_more Texts AnyText p.0 (λ text is. tt) p.2)

any_wanting : (stop : Stop) → IsFault (codes "no memory\n") stop → Refuses AnyText stop
any_wanting (halts.Fault fault) is = record { says = is }
any_wanting (halts.Refused refused notes) is = absurd is

pub any_wants : {A : Type 0} (r : Result A Stop) → IsErrAnd r (IsFault (codes "no memory\n")) → IfErr r (Refuses AnyText)
any_wants r err = let p = err_from_is_err_and r err in rw p.1 (any_wanting p.0 p.2)

-- a refusal gets notes
pub noted_refuses : (Texts : List ℕ → Type 0) (stop : Stop) (notes : String Global) → Refuses Texts stop → Refuses (Noted Texts) (noted stop notes)
noted_refuses Texts (halts.Fault fault) notes is = record { says = is.says }
noted_refuses Texts (halts.Refused said None) notes is = record { says = (refusal_line said, string_bytes notes, refl, is.says) }
noted_refuses Texts (halts.Refused said (Some before)) notes is =
    record { says = (refusal_text said (Some before), [], sym (append-nil (refusal_text said (Some before))), is.says) }

-- a file that was read
pub file_read : (file : SourceFile) (name bytes : List ℕ) → file.name.now ≡ name → bytes ≡ file.bytes.items → IsFileRead name (Some file) bytes
file_read file name bytes named same = (file, refl, named, sym same)
