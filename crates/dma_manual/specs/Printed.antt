-- What tools print of bytes, by their manuals.
use Rattle.std.specs.Prelude.{ℕ, zero, suc, ◌+◌, ◌-◌, ◌*◌, ◌/◌, ◌%◌, ◌==◌, ◌&&◌, false, nat_le, nat_lt, if◌then◌else◌, List, [], ◌∷◌, ◌++◌, codes, drop, flat_map, length, map, replicate, take, Option, Some, None}
use Rattle.std.specs.Fmt.{digit_glyph}
use Rattle.dma_manual.specs.{Forms.digits_of, Forms.is_octal, Forms.size_of, declared.forms.Group.Group}
use Rattle.dma_manual.specs.declared.forms.Group.TheVariants.{Half}

-- the last k digits of a number in a radix: printf's `%08x` for k = 8 and 16, if the number has no more
unfoldable pub places : ℕ → ℕ → ℕ → List ℕ
places radix zero n = []
places radix (suc k) n = places radix k (n / radix) ++ digit_glyph false (n % radix) ∷ []

abbrev pub last_part : List ℕ → List (List ℕ)
last_part [] = []
last_part (b ∷ part) = (b ∷ part) ∷ []

-- bytes in parts of n after `part`, which has fewer
abbrev pub parts_after : ℕ → List ℕ → List ℕ → List (List ℕ)
parts_after n part [] = last_part part
parts_after n part (b ∷ bytes) =
    let more = part ++ b ∷ [] in
    if length more == n then more ∷ parts_after n [] bytes else parts_after n more bytes

-- bytes in parts of n, of which the last may have fewer
abbrev pub parts : ℕ → List ℕ → List (List ℕ)
parts n bytes = parts_after n [] bytes

-- the number that bytes are, the lowest first
abbrev pub number_of : List ℕ → ℕ
number_of [] = 0
number_of (b ∷ bytes) = b + 256 * number_of bytes

-- the spaces that a text lacks to n characters
abbrev pub padding : ℕ → List ℕ → List ℕ
padding n text = replicate (n - length text) 32

-- a byte as an ASCII character, or a dot if it isn't printable
abbrev pub character : ℕ → ℕ
character c = if nat_le 32 c && nat_le c 126 then c else 46

abbrev pub characters : List ℕ → List ℕ
characters bytes = map character bytes

-- lines of bytes, each with the address of its first byte, from the address `at` on
abbrev pub lines_from : (ℕ → List ℕ → List ℕ) → ℕ → List (List ℕ) → List ℕ
lines_from line at [] = []
lines_from line at (part ∷ rest) = line at part ++ lines_from line (at + length part) rest

-- bytes in two digits each, with a space after each
abbrev pub spaced_pairs : List ℕ → List ℕ
spaced_pairs bytes = flat_map (λ b. places 16 2 b ++ 32 ∷ []) bytes

-- A line of `hexdump -C` (hexdump(1)): the offset, two spaces, 16 bytes with a space more after the eighth, and the
-- bytes as characters between bars.
abbrev pub canonical_line : ℕ → List ℕ → List ℕ
canonical_line at line =
    let groups = spaced_pairs (take 8 line) ++ (32 ∷ spaced_pairs (drop 8 line)) in
    (places 16 8 at ++ codes "  ") ++ ((groups ++ padding 49 groups) ++ (codes " |" ++ (characters line ++ 124 ∷ 10 ∷ [])))

-- What `hexdump -C -v` prints: the lines, and the offset of the end.
abbrev pub hexdump_canonical : List ℕ → List ℕ
hexdump_canonical bytes = lines_from canonical_line 0 (parts 16 bytes) ++ (places 16 8 (length bytes) ++ 10 ∷ [])

-- the digits of a group of bytes, as a number whose lowest byte is the first
abbrev pub group_digits : Group → List ℕ → List ℕ
group_digits group part = places (if is_octal group then 8 else 16) (digits_of group) (number_of part)

-- groups of bytes with a space before each
abbrev pub spaced_groups : Group → List (List ℕ) → List ℕ
spaced_groups group list = flat_map (λ part. 32 ∷ group_digits group part) list

-- bytes with zeros after them, so that the last group is whole
abbrev pub filled : Group → List ℕ → List ℕ
filled group bytes = bytes ++ replicate ((size_of group - length bytes % size_of group) % size_of group) 0

-- a line of offset and groups, with `pad` spaces at its end
abbrev pub plain_line : ℕ → ℕ → Group → (List ℕ → ℕ) → ℕ → List ℕ → List ℕ
plain_line radix k group pad at line =
    places radix k at ++ (spaced_groups group (parts (size_of group) line) ++ (replicate (pad line) 32 ++ 10 ∷ []))

-- lines of 16 bytes with the last group filled up, and the offset of the end
abbrev pub plain_dump : ℕ → ℕ → Group → (List ℕ → ℕ) → List ℕ → List ℕ
plain_dump radix k group pad bytes =
    lines_from (plain_line radix k group pad) 0 (parts 16 (filled group bytes)) ++ (places radix k (length bytes) ++ 10 ∷ [])

-- What `od -v -t` prints (od(1)): `-A o`, the default, and `-A d` have offsets of seven digits, `-A x` of six. `-t x1`,
-- `x2`, `x4` and `x8` are groups of 1 to 8 bytes, `-t o2`, the default, words of 16 bits in octal.
abbrev pub od : ℕ → ℕ → Group → List ℕ → List ℕ
od radix k group bytes = plain_dump radix k group (λ line. 0) bytes

-- What `hexdump -v` prints (hexdump(1)): words of 16 bits, and spaces in place of those that the last line lacks.
abbrev pub hexdump : List ℕ → List ℕ
hexdump bytes = plain_dump 16 7 Half (λ line. 40 - length (spaced_groups Half (parts 2 line))) bytes

-- bytes in two digits each
abbrev pub pairs : List ℕ → List ℕ
pairs bytes = flat_map (λ b. places 16 2 b) bytes

-- groups of pairs with a space after each
abbrev pub paired_groups : List (List ℕ) → List ℕ
paired_groups list = flat_map (λ part. pairs part ++ 32 ∷ []) list

-- A line of `xxd -g` (xxd(1)): the offset and a colon, 16 bytes in groups of `size`, and the bytes as characters after
-- two spaces.
abbrev pub xxd_line : ℕ → ℕ → List ℕ → List ℕ
xxd_line size at line =
    let groups = paired_groups (parts size line) in
    (places 16 8 at ++ codes ": ") ++ (groups ++ (padding (32 + (15 + size) / size) groups ++ (32 ∷ (characters line ++ 10 ∷ []))))

-- What `xxd -g` prints, for a size of groups that isn't 0; it is 2 by default.
abbrev pub xxd : ℕ → List ℕ → List ℕ
xxd size bytes = lines_from (xxd_line size) 0 (parts 16 bytes)

-- A line of U-Boot's `md` (`print_buffer` in lib/display_options.c): the address and a colon, 16 bytes in groups, and
-- the bytes as characters. Two spaces and `gap` more are before these: U-Boot 2023.01 has no more, and old ones have two.
abbrev pub md_line : ℕ → Group → ℕ → List ℕ → List ℕ
md_line gap group at line =
    let groups = spaced_groups group (parts (size_of group) line) in
    (places 16 8 at ++ 58 ∷ [])
    ++ (groups ++ (padding (16 / size_of group * (digits_of group + 1) + gap) groups ++ (codes "  " ++ (characters line ++ 10 ∷ []))))

-- What `md` prints of bytes from an address on: `md.b`, `md.w`, `md.l`, which is the default, or `md.q`.
abbrev pub md : ℕ → Group → ℕ → List ℕ → List ℕ
md gap group at bytes = lines_from (md_line gap group) at (parts 16 bytes)

-- a number in hexadecimal digits without a 0 in front, if it has at most k + 1 of them: printf's `%x`
unfoldable pub short_places : ℕ → ℕ → List ℕ
short_places zero n = digit_glyph false n ∷ []
short_places (suc k) n = if nat_lt n 16 then digit_glyph false n ∷ [] else short_places k (n / 16) ++ digit_glyph false (n % 16) ∷ []

-- groups of bytes with a tab and `0x` before each
abbrev pub marked_groups : Group → List (List ℕ) → List ℕ
marked_groups group list = flat_map (λ part. 9 ∷ 48 ∷ 120 ∷ group_digits group part) list

-- a symbol near an address, which has a name and perhaps an offset, as gdb prints it
abbrev pub symbol_text : Option (List ℕ) → List ℕ
symbol_text None = []
symbol_text (Some name) = codes " <" ++ (name ++ 62 ∷ [])

-- A line of gdb's `x/x` (Debugging with GDB, "Examining Memory"): the address with `0x`, its symbol if there is one, a
-- colon, and groups.
abbrev pub x_line : Group → (ℕ → Option (List ℕ)) → ℕ → List ℕ → List ℕ
x_line group symbol at line =
    (48 ∷ 120 ∷ short_places 15 at) ++ (symbol_text (symbol at) ++ (58 ∷ (marked_groups group (parts (size_of group) line) ++ 10 ∷ [])))

-- What `x/Nxb`, `x/Nxh`, `x/Nxw` and `x/Nxg` print of bytes from an address on: eight bytes in a line, or 16 in larger
-- groups.
abbrev pub gdb_x : Group → (ℕ → Option (List ℕ)) → ℕ → List ℕ → List ℕ
gdb_x group symbol at bytes = lines_from (x_line group symbol) at (parts (if size_of group == 1 then 8 else 16) bytes)

-- A line of `objdump -s` (objdump(1)): a space, the address, 16 bytes in groups of four, and the bytes as characters,
-- with spaces in place of those that the last line lacks.
abbrev pub objdump_line : ℕ → ℕ → List ℕ → List ℕ
objdump_line k at line =
    let groups = paired_groups (parts 4 line) in
    let text = characters line in
    (32 ∷ places 16 k at) ++ (32 ∷ (groups ++ (padding 36 groups ++ (32 ∷ (text ++ (padding 16 text ++ 10 ∷ []))))))

-- What `objdump -s` prints of a section from its title on, with addresses of k digits, which are at least four.
abbrev pub objdump : ℕ → List ℕ → ℕ → List ℕ → List ℕ
objdump k name at bytes =
    codes "Contents of section " ++ (name ++ (58 ∷ 10 ∷ lines_from (objdump_line k) at (parts 16 bytes)))
