use Rattle.std.proofs.Common.{◌∷◌, [], map, drop}
use Rattle.burr_text.specs.Words.{text_line}
use Rattle.burr_io.proofs.Common.Puts.{Remains, joined}
use Rattle.burr_io.proofs.writing.put_words.Given as goal

-- the words to come, each after its separator, remain
abbrev pub invariant-loop-word : goal.invariant-loop-word
invariant-loop-word g l =
    Remains g.W.Sink l.fn.sink l.sink (text_line (map (λ w. w.now) l.words)) (joined l.separator 32 (map (λ w. w.now) (drop l.word-index l.words)) (10 ∷ []))
