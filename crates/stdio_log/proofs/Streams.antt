-- The pieces of a file, run one after the other, and a file after another. Assumes nothing.
use mathlib.Core.Path.{◌≡◌, refl, ap, sym, ◌∙◌}
use mathlib.Core.List.{List, [], ◌∷◌, ◌++◌}
use Prim.Native.Nat.{ℕ, ◌+◌, ◌-◌, ◌≤◌, min}
use native.Mathlib.Omega.{arith}
use lib.ListN.{length, take, drop, length-take, length-drop}
use lib.Seq.{take-add, take_at, take-take}
use Rattle.text_lines.specs.Lines.{lines}
use Rattle.stream.specs.Pieces.{last_end, ended, unended, kept_bytes, waiting, Stream, no_input, fed_piece, fed_pieces, stream_lines, input_of}
use Rattle.stream.proofs.Pieces.{last_within, one_piece}
use Rattle.log_session.specs.Desk.{empty_desk}
use Rattle.log_run.specs.Log.{Run, begun, run_lines, log_run}
use Rattle.log_run.proofs.Runs.{run-parts}
use Rattle.log_run.proofs.Kept.{kept_run}
use Rattle.stdio_log.specs.declared.memory.Memory.{Memory}
use Rattle.stdio_log.specs.Streaming.{Ran, Streaming, Streamed, Continued}
use Rattle.stdio_log.proofs.Decided.{pieces-run}

-- the first bytes of a chunk, counted
pub part-few : (s : List ℕ) (n count m : ℕ) → count + n ≤ m → count + length (take n s) ≤ m
part-few s n count m h = omega (arith, length-take n s)

-- a chunk is fed: its whole lines are run, and what waits stands at its front
waiting-size : (s : List ℕ) → length (waiting s) ≡ min kept_bytes (length s - last_end s)
unfolding waiting unended
waiting-size s = length-take kept_bytes (drop (last_end s) s) ∙ ap (min kept_bytes) (length-drop (last_end s) s)

module _ (chunk : List ℕ) (filled : ℕ) {whole : ℕ} (l : filled ≤ length chunk) (w : whole ≡ last_end (take filled chunk)) where
  pub whole-filled : whole ≤ filled
  whole-filled = omega (arith, last_within (take filled chunk), length-take filled chunk)

  pub whole-few : (count m : ℕ) → count + filled ≤ m → count + length (take whole chunk) ≤ m
  whole-few count m h = part-few chunk whole count m (omega (arith, whole-filled))

  ended-part : take whole chunk ≡ ended (take filled chunk)
  unfolding ended
  ended-part = sym (take-take whole filled chunk whole-filled) ∙ ap (λ (n : ℕ). take n (take filled chunk)) w

  -- what feeding leaves
  pub record Feeds (memory after : Memory) (rest : ℕ) (later : List ℕ) : Type 0 where
    pub few : rest ≤ kept_bytes
    pub waits : take rest later ≡ waiting (take filled chunk)
    pub counted : after.line + rest ≤ memory.line + filled
    pub runs : (R : Run) → Ran R memory → Ran (run_lines R (lines (ended (take filled chunk)))) after

  pub feeds : (memory after : Memory) (rest : ℕ) (later tail : List ℕ) → (rest ≡ length (waiting (take filled chunk))) × (later ≡ waiting (take filled chunk) ++ tail)
      → after.line ≤ memory.line + length (take whole chunk) → ((R : Run) → Ran R memory → Ran (run_lines R (lines (take whole chunk))) after) → Feeds memory after rest later
  feeds memory after rest later tail p few f =
      let s = take filled chunk in
      let z : length s ≡ filled = omega (arith, length-take filled chunk) in
      let m : length (take whole chunk) ≡ whole = omega (arith, length-take whole chunk, whole-filled) in
      record {
        few = omega (arith, p.0, waiting-size s);
        waits = ap (take rest) p.1 ∙ take_at (waiting s) tail rest (sym p.0);
        counted = omega (arith, p.0, few, waiting-size s, whole-filled);
        runs = λ R h. rw (← ended-part) (f R h);
      }

pub streaming-start : {R : Run} {memory : Memory} → Ran R memory → Streaming R memory []
unfolding run_lines fed_pieces no_input
streaming-start h = record { pieces = []; ran = h; waits_are = refl }

module _ {R : Run} {memory : Memory} (chunk : List ℕ) (rest : ℕ) (S : Streaming R memory (take rest chunk)) where
  -- one piece more: what was read after the bytes that wait
  pub streaming-next : (read : List ℕ) (size : ℕ) → take rest read ≡ take rest chunk → (next : Memory) (waits : List ℕ) → waits ≡ waiting (take (rest + size) read)
      → ((Q : Run) → Ran Q memory → Ran (run_lines Q (lines (ended (take (rest + size) read)))) next) → Streaming R next waits
  unfolding fed_piece
  streaming-next read size same next waits w f =
      let F = fed_pieces no_input S.pieces in
      let p = take size (drop rest read) in
      let ls = lines (ended (take (rest + size) read)) in
      let e : fed_pieces no_input (S.pieces ++ (p ∷ [])) ≡ fed_piece F p = one_piece no_input S.pieces p in
      let j : F.waits ++ p ≡ take (rest + size) read = ap (λ (l : List ℕ). l ++ p) (sym S.waits_are ∙ sym same) ∙ sym (take-add rest size read) in
      let t : (fed_pieces no_input (S.pieces ++ (p ∷ []))).told ≡ F.told ++ ls = ap (λ (G : Stream). G.told) e ∙ ap (λ (l : List ℕ). F.told ++ lines (ended l)) j in
      record {
        pieces = S.pieces ++ (p ∷ []);
        ran = rw (t, run-parts R F.told ls) (f (run_lines R F.told) S.ran);
        waits_are = w ∙ ap waiting (sym j) ∙ ap (λ (G : Stream). G.waits) (sym e);
      }

  -- the last line, without its end
  pub streaming-end : {last : Memory} → Ran (run_lines (run_lines R (fed_pieces no_input S.pieces).told) (lines (take rest chunk))) last → Streamed R last
  unfolding stream_lines
  streaming-end q =
      let F = fed_pieces no_input S.pieces in
      let l = S.waits_are in
      let t = rw l at q in
      record { pieces = S.pieces; ran = rw (← pieces-run R S.pieces, run-parts R F.told (lines F.waits)) t }

-- a kept log, and the lines that follow it
pub continues : {memory last : Memory} (K : Streamed (begun empty_desk 0) memory) → Streamed (run_lines (begun empty_desk 0) (lines (input_of K.pieces))) last → Continued last
unfolding log_run
continues K N = record { kept = K.pieces; pieces = N.pieces; ran = N.ran }

-- A KEPT LOG THAT ENDS ITS LAST LINE and the lines that follow it come to the run of both in one piece
pub continued-whole : {memory : Memory} (C : Continued memory) → last_end (input_of C.kept) ≡ length (input_of C.kept) → Ran (log_run (input_of C.kept ++ input_of C.pieces)) memory
continued-whole C h = rw (← kept_run (input_of C.kept) (input_of C.pieces) h) C.ran
