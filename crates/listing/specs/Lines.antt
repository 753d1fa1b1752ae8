-- The lines that the program prints, byte by byte, and how they wait in its buffer.
use Rattle.std.specs.Prelude.{ℕ, zero, suc, ◌+◌, ◌-◌, ◌/◌, ◌%◌, true, false, List, [], ◌∷◌, ◌++◌, ltb}
use Prim.Native.Char.{code}
use Prim.Native.String.{String, [] as done, ◌∷◌ as ◌next◌}

-- The bytes of a text, of ASCII characters.
abbrev pub ascii : String → List ℕ
ascii done = []
ascii (c next s) = code c ∷ ascii s

-- A number in decimal, in so many steps at most: below 10 its digit, else the digits of its tenth and then its last.
abbrev pub decimal_by : ℕ → ℕ → List ℕ
decimal_by zero n = []
decimal_by (suc fuel) n =
    elim (ltb n 10) [
      | true ↦ (48 + n) ∷ []
      | false ↦ decimal_by fuel (n / 10) ++ ((48 + n % 10) ∷ [])
    ]

-- A number in decimal: n + 1 steps are enough.
abbrev pub decimal : ℕ → List ℕ
decimal n = decimal_by (suc n) n

-- A line of two words, each with a number.
abbrev pub line : List ℕ → ℕ → List ℕ → ℕ → List ℕ
line one a two b = (one ++ decimal a) ++ (two ++ decimal b) ++ ascii "\n"

-- The four lines: the image's length and the number of tokens; a hit's end and token; the numbers of hits, of bytes fetched and of bytes
-- spared; a refusal's number and value.
abbrev pub image_line : ℕ → ℕ → List ℕ
image_line n tokens = line (ascii "image ") n (ascii " tokens ") tokens

abbrev pub hit_line : ℕ → ℕ → List ℕ
hit_line at token = line (ascii "hit ") at (ascii " ") token

abbrev pub end_line : ℕ → ℕ → ℕ → List ℕ
end_line hits fetched spared = (ascii "end " ++ decimal hits) ++ line (ascii " ") fetched (ascii " ") spared

abbrev pub refused_line : ℕ → ℕ → List ℕ
refused_line number value = line (ascii "refused ") number (ascii " ") value

-- No line that is printed is longer: the last one has 7 bytes (`end`, three spaces, the newline) and three numbers of at most 20 digits.
abbrev pub longest_line : ℕ
longest_line = 67

-- Of `used` bytes that wait in a buffer of n, those that still do when room is made for a line.
abbrev pub waiting : ℕ → ℕ → ℕ
waiting used n = elim (ltb (n - used) longest_line) [ true ↦ 0 | false ↦ used ]
