-- What a reading one way says and leaves in the output; a track's shape without looks of two characters.
use Rattle.std.specs.Prelude.{◌≡◌, false, List, ℕ, length, Result}
use Rattle.std.proofs.lemmas.Bool.{false≢true}
use Rattle.text.specs.Numbers.{put}
use Rattle.reasons.specs.declared.Reason.{Reason}
use Rattle.reasons.specs.Reasons.{Outcome, gives, and_then, after, said}
use Rattle.chars.specs.declared.shape.Shape.{Shape}

-- a reading one way with this outcome says the characters' count, and turns the output from old to new
pub record WayRead (r : Result ℕ Reason) (o : Outcome (List ℕ)) (old new : List ℕ) : Type 0 where
  pub says : said r ≡ and_then o (λ cs. gives (length cs))
  pub writes : new ≡ after o old (λ cs. put old 0 cs)

-- the same track, read one character after another
abbrev pub plain : Shape → Shape
plain h =
    record {
      size = h.size;
      start = h.start;
      first = h.first;
      last = h.last;
      base = h.base;
      limit = h.limit;
      pairs = false;
      any = h.any;
      few = h.few;
      low = h.low;
      short = h.short;
      some = h.some;
      start_fits = h.start_fits;
      four = λ e. absurd (false≢true e);
      first_is = h.first_is;
    }
