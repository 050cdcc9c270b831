-- Lines of 01 and of document 000 with the molecules that they read to, and lines that 01 calls unreadable, one for each rule, as one list
-- with one proof. Then lines as they are shown.
use Prim.Native.Nat.{ℕ}
use Prim.Native.Char.{code}
use Prim.Native.String.{String}
use mathlib.Core.Path.{◌≡◌, refl}
use mathlib.Core.Option.{Option, none, some}
use mathlib.Core.List.{List, [], ◌∷◌, map}
use Rattle.writer.specs.emit.Text.{digits}
use Rattle.reading_rules.specs.smiles.Ascii.{ascii}
use Rattle.reading_rules.specs.molecule.Molecule.{At, at, Atom, atom, Bond, bond, Sum, sum, Molecule, molecule}
use Rattle.reading_rules.specs.reading.Line.{read_line}
use Rattle.reading_rules.specs.reading.Show.{show_line}

pub data Example : Type 0 where
  reads : String → Molecule → Example
  refused : String → Example

pub found : Example → Option Molecule
found (reads s m) = read_line (ascii s)
found (refused s) = read_line (ascii s)

pub expected : Example → Option Molecule
expected (reads s m) = some m
expected (refused s) = none

-- an atom that has nothing but its bytes; one with a label, with a variable, with sites
bare : String → Atom
bare s = atom (ascii s) none none none

labelled : String → ℕ → Atom
labelled s sn = atom (ascii s) (some sn) none none

marked : String → ℕ → Atom
marked s v = atom (ascii s) none (some v) none

sited : String → List ℕ → Atom
sited s js = atom (ascii s) none none (some js)

plain : ℕ → ℕ → Bond
plain a b = bond a b 0

double : ℕ → ℕ → Bond
double a b = bond a b (code "=")

pub examples : List Example
examples =
    -- 01, Batch program: the first row
    reads "OC(=O)CC=CC |Sg:n:3:a:ht,Sg:n:6:b:ht| constrain(a+b=3)"
    (molecule (bare "O" ∷ bare "C" ∷ bare "O" ∷ marked "C" 0 ∷ bare "C" ∷ bare "C" ∷ marked "C" 1 ∷ [])
    (plain 0 1 ∷ double 1 2 ∷ plain 1 3 ∷ plain 3 4 ∷ double 4 5 ∷ plain 5 6 ∷ []) (sum (0 ∷ 1 ∷ []) 3 ∷ []))
    -- 01, Edges and traps
    ∷ reads "OC(=O)CCCC.*O |m:7:3.4.5.6|"
    (molecule (bare "O" ∷ bare "C" ∷ bare "O" ∷ bare "C" ∷ bare "C" ∷ bare "C" ∷ bare "C" ∷ sited "*" (3 ∷ 4 ∷ 5 ∷ 6 ∷ []) ∷ bare "O" ∷ [])
    (plain 0 1 ∷ double 1 2 ∷ plain 1 3 ∷ plain 3 4 ∷ plain 4 5 ∷ plain 5 6 ∷ plain 7 8 ∷ []) [])
    ∷ reads "C(CO)(N)C(O)CCC"
    (molecule (map bare ("C" ∷ "C" ∷ "O" ∷ "N" ∷ "C" ∷ "O" ∷ "C" ∷ "C" ∷ "C" ∷ []))
    (plain 0 1 ∷ plain 0 3 ∷ plain 0 4 ∷ plain 1 2 ∷ plain 4 5 ∷ plain 4 6 ∷ plain 6 7 ∷ plain 7 8 ∷ []) [])
    -- labels go by atom, `swappable` by sn; sites may repeat and name their own atom; sums are a set, and may be unmeetable
    ∷ reads "CCl |$sn3;sn1$| swappable(sn1,sn3)" (molecule (labelled "C" 3 ∷ labelled "Cl" 1 ∷ []) (plain 0 1 ∷ []) [])
    ∷ reads "C-C |m:1:1.1.0|" (molecule (bare "C" ∷ sited "C" (1 ∷ 1 ∷ 0 ∷ []) ∷ []) (plain 0 1 ∷ []) [])
    ∷ reads "C=C |Sg:n:1:ht:ht,Sg:n:0:sn:ht| constrain(sn=4294967295);constrain(ht=0)"
    (molecule (marked "C" 507 ∷ marked "C" 227 ∷ []) (double 0 1 ∷ []) (sum (227 ∷ []) 0 ∷ sum (507 ∷ []) 4294967295 ∷ []))
    ∷ reads "CC |$;sn4$,Sg:n:0:m:ht,m:0:1| swappable(sn4);constrain(m=7)"
    (molecule (atom (ascii "C") none (some 12) (some (1 ∷ [])) ∷ labelled "C" 4 ∷ []) (plain 0 1 ∷ []) (sum (12 ∷ []) 7 ∷ []))
    -- after a blank and `|`; a closing `|`; at least one block; nothing after a blank but `swappable` and `constrain`
    ∷ refused ""
    ∷ refused "CC "
    ∷ refused "CC m:0:1|"
    ∷ refused "CC |m:0:1"
    ∷ refused "CC  |m:0:1|"
    ∷ refused "CC ||"
    ∷ refused "CC |m:0:1,|"
    ∷ refused "CC |m:0:1| "
    ∷ refused "CC |m:0:1| constrain()"
    ∷ refused "C( |m:0:1|"
    -- the blocks in their order, with one `$..$` at most
    ∷ refused "CC |m:0:1,Sg:n:0:a:ht| constrain(a=1)"
    ∷ refused "CC |Sg:n:0:a:ht,$sn1$| swappable(sn1);constrain(a=1)"
    ∷ refused "CC |$sn1$,$;sn2$| swappable(sn1,sn2)"
    ∷ refused "CC |$sn1$,Sg:n:0:a:ht| constrain(a=1);swappable(sn1)"
    -- entries empty or sn1 to sn4, no more of them than atoms
    ∷ refused "CC |$sn5$| swappable(sn5)"
    ∷ refused "CC |$sn01$| swappable(sn01)"
    ∷ refused "CC |$sn1;;$| swappable(sn1)"
    -- `swappable` exactly with `$..$`, with its labels, strictly rising
    ∷ refused "CC |$sn1$|"
    ∷ refused "CC |m:0:1| swappable(sn1)"
    ∷ refused "CC |$sn2;sn1$| swappable(sn2,sn1)"
    ∷ refused "CC |$sn2;sn1$| swappable(sn1)"
    ∷ refused "CC |$sn2$| swappable(sn1,sn2)"
    ∷ refused "CC |$sn1;sn1$| swappable(sn1,sn1)"
    ∷ refused "CC |$sn1;sn1$| swappable(sn1)"
    -- lists are not empty
    ∷ refused "CC |$$|"
    ∷ refused "CC |$;$|"
    ∷ refused "CC |$;$| swappable()"
    ∷ refused "CC |m:0:|"
    ∷ refused "CC |m:0:1.|"
    ∷ refused "CC |Sg:n:0:a:ht| constrain(=1)"
    -- numbers are digits without a leading zero, below 2^32
    ∷ refused "CC |m:00:1|"
    ∷ refused "CC |m:0:01|"
    ∷ refused "CC |m:+0:1|"
    ∷ refused "CC |Sg:n:0:a:ht| constrain(a=4294967296)"
    ∷ refused "CC |Sg:n:0:a:ht| constrain(a=)"
    -- one or two small letters
    ∷ refused "CC |Sg:n:0:A:ht| constrain(A=1)"
    ∷ refused "CC |Sg:n:0:aaa:ht| constrain(aaa=1)"
    ∷ refused "CC |Sg:n:0:a1:ht| constrain(a1=1)"
    -- an index past the atoms
    ∷ refused "CC |m:2:1|"
    ∷ refused "CC |m:0:2|"
    ∷ refused "CC |Sg:n:2:a:ht| constrain(a=1)"
    -- an atom or a variable marked, or an atom given sites, twice
    ∷ refused "CC |Sg:n:0:a:ht,Sg:n:0:b:ht| constrain(a+b=2)"
    ∷ refused "CC |Sg:n:0:a:ht,Sg:n:1:a:ht| constrain(a=2)"
    ∷ refused "CC |m:0:1,m:0:0|"
    -- a marked variable not exactly once in the sums, or an unmarked one there
    ∷ refused "CC |Sg:n:0:a:ht|"
    ∷ refused "CC |Sg:n:0:a:ht| constrain(b=1)"
    ∷ refused "CC |Sg:n:0:a:ht| constrain(a+a=2)"
    ∷ refused "CC |Sg:n:0:a:ht| constrain(a=1);constrain(a=1)"
    ∷ refused "CC |Sg:n:0:a:ht| constrain(a+b=2)"
    ∷ []

pub worked-lines : map found examples ≡ map expected examples
unfolding examples found expected read_line ascii bare labelled marked sited plain double
worked-lines = refl

-- ---- lines as they are shown

pub data Shown : Type 0 where
  shown : String → List (At ℕ) → List (At ℕ) → List (At (List ℕ)) → List Sum → String → Shown

pub written : Shown → List ℕ
written (shown text labels marks sites sums line) = show_line (ascii text) labels marks sites sums

pub stored : Shown → List ℕ
stored (shown text labels marks sites sums line) = ascii line

pub lines : List Shown
lines =
    shown "C(CO)(N)C(O)CCC" [] [] [] [] "C(CO)(N)C(O)CCC"
    ∷ shown "OC(=O)CC=CC" [] (at 3 0 ∷ at 6 1 ∷ []) [] (sum (0 ∷ 1 ∷ []) 3 ∷ []) "OC(=O)CC=CC |Sg:n:3:a:ht,Sg:n:6:b:ht| constrain(a+b=3)"
    ∷ shown "OC(=O)CCCC.*O" [] [] (at 7 (3 ∷ 4 ∷ 5 ∷ 6 ∷ []) ∷ []) [] "OC(=O)CCCC.*O |m:7:3.4.5.6|"
    ∷ shown "C(CO)(OC(=O)C%10OC%10CCC)COC(=O)C%11CC%11%12CC%12CC" (at 13 1 ∷ at 3 2 ∷ []) [] [] []
    "C(CO)(OC(=O)C%10OC%10CCC)COC(=O)C%11CC%11%12CC%12CC |$;;;sn2;;;;;;;;;;sn1$| swappable(sn1,sn2)"
    ∷ shown "C(CO)(NC(=O)CC=CC.*O)C(O)CC=CC" [] (at 6 0 ∷ at 9 1 ∷ at 14 26 ∷ at 17 701 ∷ []) (at 10 (6 ∷ 7 ∷ []) ∷ [])
    (sum (0 ∷ 1 ∷ []) 2 ∷ sum (26 ∷ 701 ∷ []) 3 ∷ [])
    "C(CO)(NC(=O)CC=CC.*O)C(O)CC=CC |Sg:n:6:a:ht,Sg:n:9:b:ht,Sg:n:14:aa:ht,Sg:n:17:zz:ht,m:10:6.7| constrain(a+b=2);constrain(aa+zz=3)"
    ∷ []

pub shown-lines : map written lines ≡ map stored lines
unfolding lines written stored show_line ascii digits
shown-lines = refl
