-- A line of the queue: a process's number from place 0, its start time from 21, the boot's id from 42.
use Rattle.std.specs.Prelude.{ℕ, Bool, cond, ◌&&◌, List, leb, ltb, length, take, drop, set, replicate}
use Rattle.text.specs.Numbers.{put}
use Rattle.script.specs.Words.{same}

-- before anything is written into it: spaces (32), and the line feed (10) that ends it
unfoldable pub blank_line : List ℕ
blank_line = set (replicate 128 32) 127 10

-- the fields fit: a start time is known, and none is longer than its place
unfoldable pub fits : List ℕ → List ℕ → List ℕ → Bool
fits pid start boot = ltb 0 (length start) && (leb (length pid) 20 && (leb (length start) 20 && leb (length boot) 36))

unfoldable pub line_of : List ℕ → List ℕ → List ℕ → List ℕ → List ℕ
line_of line pid start boot = put (put (put line 0 pid) 21 start) 42 boot

-- a line afterwards: the fields written into it, where they fit
unfoldable pub signed : List ℕ → List ℕ → List ℕ → List ℕ → List ℕ
signed line pid start boot = cond (fits pid start boot) (line_of line pid start boot) line

-- a line is that of the process of this number and start time, in the boot that the own line names
unfoldable pub is_now : List ℕ → List ℕ → List ℕ → List ℕ → Bool
is_now line own pid start = fits pid start (take 36 (drop 42 own)) && same line (line_of blank_line pid start (take 36 (drop 42 own)))
