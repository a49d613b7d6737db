-- Bits behind bits as one number, of which three words are the last 192 bits. Assumes nothing.
use Rattle.std.specs.Prelude.{List, ◌≡◌, ℕ, ◌+◌, ◌*◌, ◌/◌, ◌%◌, ◌^◌, ◌<◌, length, replicate, leb}
use Rattle.bits.specs.Field.{both, pick}
use Rattle.csn1.specs.Format.{num_bits, put_bits}
use Rattle.csn1.specs.Told.{as_bit}
use Rattle.call.specs.declared.Call.{Call}
use Rattle.call.specs.declared.Description.{Description}
use Rattle.pen.specs.declared.Words.{Words}

abbrev pub no_words : Words
no_words = record { a = 0; b = 0; c = 0 }

-- the words as one number
abbrev pub whole : Words → ℕ
whole w = (w.a * 2 ^ 64 + w.b) * 2 ^ 64 + w.c

-- the last w bits of v behind what is there; of all bits the last 192 are kept
unfoldable pub added : ℕ → ℕ → ℕ → ℕ
added x w v = (x * 2 ^ w + v % 2 ^ w) % 2 ^ 192

-- a number has no more than 64 bits
unfoldable pub whole_after : ℕ → ℕ → ℕ → ℕ
whole_after x w v = pick (leb w 64) (added x w v) x

-- the last 192 bits of a number as words
unfoldable pub words_of : ℕ → Words
words_of x = record { a = x / 2 ^ 128 % 2 ^ 64; b = x / 2 ^ 64 % 2 ^ 64; c = x % 2 ^ 64 }

-- words with the last n bits of v behind what they hold
unfoldable pub put_words : Words → ℕ → ℕ → Words
put_words w n v = words_of (whole_after (whole w) n v)

-- octets of padding with the last n bits of the words from the start on; octets that have not so many, or are more than 23, stay
unfoldable pub stored_in : Words → ℕ → List ℕ → List ℕ
stored_in w n s = pick (both (leb (length s) 23) (leb n (length s * 8))) (put_bits (replicate (length s) 43) 0 (num_bits n (whole w))) s

-- these bits were written: y is the number of what is there behind them, and x before
pub record Adds (x y : ℕ) (bs : List ℕ) : Type 0 where
  pub number : ℕ
  pub says : num_bits (length bs) number ≡ bs
  pub below : number < 2 ^ length bs
  pub is : y % 2 ^ 192 ≡ (x * 2 ^ length bs + number) % 2 ^ 192

-- ## A call behind what words hold

-- the 36 bits and the flag behind them, as one number
abbrev pub call_head : Call → ℕ
call_head c =
    ((c.reference * 4 + as_bit c.vgcs * 2 + as_bit c.acknowledged) * 256 + c.priority * 32) + c.cipher * 2 + as_bit c.hasDescription

unfoldable pub put_frequencies : Words → Description → Words
put_frequencies w d = pick d.shortlist (put_words (put_words w 1 1) 64 d.frequencies) (put_words (put_words w 9 d.length) (8 * d.length) d.frequencies)

unfoldable pub put_description : Words → Description → Words
put_description w d = pick d.hopping (put_frequencies (put_words w 25 (d.channel * 2 + as_bit d.hopping)) d) (put_words w 25 (d.channel * 2 + as_bit d.hopping))

unfoldable pub put_call : Words → Call → Words
put_call w c = pick c.hasDescription (put_description (put_words w 37 (call_head c)) c.description) (put_words w 37 (call_head c))
