-- Worked requests, as one list: the starred cases of 01, Edges and traps; FA 4:0, which is accepted (01, Put to each public function); and beside
-- them a swap with two sites, a base with an acyl chain, a ring and an epoxide with a floating group, a group that stands next to the last carbon, and
-- the order that was once made without its hydroxyl. That each is met has one proof: `worked` of proofs/Cases.antt. Assumes nothing.
use Rattle.std.specs.Prelude.{ℕ, Bool, true, false, ◌&&◌, List, [], ◌∷◌, map, eqb, length}
use Prim.Native.String.{String}
use Rattle.scanner.specs.scan.Part.{same_bytes}
use Rattle.reading_rules.specs.reading.Ascii.{ascii}
use Rattle.reading_rules.specs.reading.Molecule.{At, at, atoms_of, notes_of, Sum, sum}
use Rattle.template_rules.specs.Drawn.{placed, all_sums, by_sn, sn_sites}
use Rattle.template_rules.specs.Written.{line_of, index_of}
use Rattle.judge.specs.Verdict.{Verdict, Refused, Drawable, verdict}

-- what is said of a request: the number by which its first token is refused; that it is accepted; the number of its one sum; or its line, its
-- index lists end to end, and its sites, each an atom with its sn
pub data Says : Type 0 where
  refused : ℕ → Says
  accepted : Says
  sums : ℕ → Says
  draws : String → List ℕ → List (At ℕ) → Says

-- a class, a swap flag, a tail, tokens and what is said
pub data Case : Type 0 where
  case : String → Bool → String → List String → Says → Case

abbrev pub fa : String → Says → Case
fa token s = case "FA" false "" (token ∷ []) s

unfoldable pub one_sum : List Sum → ℕ → Bool
one_sum [] n = false
one_sum (sum vs m ∷ []) n = eqb m n
one_sum (sum vs m ∷ s ∷ ss) n = false

unfoldable pub same_sites : List (At ℕ) → List (At ℕ) → Bool
same_sites xs ys = same_bytes (atoms_of xs) (atoms_of ys) && same_bytes (notes_of xs) (notes_of ys)

unfoldable pub holds : Says → Bool → List ℕ → Verdict → Bool
unfolding same_sites one_sum
holds (refused n) swap t (Refused m p) = eqb m n && eqb p 1
holds (refused n) swap t (Drawable c ds) = false
holds accepted swap t (Refused m p) = false
holds accepted swap t (Drawable c ds) = true
holds (sums n) swap t (Refused m p) = false
holds (sums n) swap t (Drawable c ds) = one_sum (all_sums (placed c t ds)) n
holds (draws line is ss) swap t (Refused m p) = false
holds (draws line is ss) swap t (Drawable c ds) = same_bytes (line_of c swap t ds) (ascii line) && (same_bytes (index_of c t ds) is && same_sites (sn_sites (by_sn (placed c t ds))) ss)

unfoldable pub met : Case → Bool
unfolding holds
met (case class swap tail tokens s) = holds s swap (ascii tail) (verdict (ascii class) (ascii tail) (length tokens) (map ascii tokens))

unfoldable pub cases : List Case
cases =
    fa "3:1" (refused 11)
    ∷ fa "4:1" (refused 14)
    ∷ fa "5:1" (sums 2)
    ∷ fa "24:9" accepted
    ∷ fa "24:10" (refused 11)
    ∷ fa "18:1;3OH" accepted
    ∷ fa "18:1;4OH" (refused 13)
    ∷ fa "18:0;1OMe" (refused 12)
    ∷ fa "1:0;OH" (refused 15)
    ∷ fa "18:0;O2" (refused 11)
    ∷ fa "5:0;OH" (draws "OC(=O)CCCC.*O |m:7:3.4.5.6|" (1 ∷ 3 ∷ 4 ∷ 5 ∷ 6 ∷ []) (at 1 1 ∷ []))
    ∷ case "SB" false "O" ("d6:0" ∷ []) (draws "C(CO)(N)C(O)CCC" (1 ∷ 0 ∷ 4 ∷ 6 ∷ 7 ∷ 8 ∷ []) [])
    ∷ fa "4:0" (draws "OC(=O)CCC" (1 ∷ 3 ∷ 4 ∷ 5 ∷ []) (at 1 1 ∷ []))
    ∷ case "GL2" true "" ("4:0" ∷ "5:1" ∷ [])
    (draws "C(CO)(OC(=O)CC=CC)COC(=O)CCC |$;;;sn2;;;;;;;;sn1$,Sg:n:6:a:ht,Sg:n:9:b:ht| swappable(sn1,sn2);constrain(a+b=2)" (12 ∷ 14 ∷ 15 ∷ 16 ∷ 4 ∷ 6 ∷ 7 ∷ 8 ∷ 9 ∷ []) (at 11 1 ∷ at 3 2 ∷ []))
    ∷ case "SA" true "O" ("t6:1(4E)" ∷ "4:0" ∷ [])
    (draws "C(CO)(NC(=O)CCC)C(O)/C(O)=C/C" (1 ∷ 0 ∷ 9 ∷ 11 ∷ 13 ∷ 14 ∷ 4 ∷ 6 ∷ 7 ∷ 8 ∷ []) (at 4 2 ∷ []))
    ∷ fa "6:0;[2-4cy3];OH" (draws "OC(=O)C%10CC%10CC.*O |m:8:3.4.5.6.7|" (1 ∷ 3 ∷ 4 ∷ 5 ∷ 6 ∷ 7 ∷ []) (at 1 1 ∷ []))
    ∷ fa "7:0;3Ep;OH" (draws "OC(=O)CC%10OC%10CCC.*O |m:10:3.4.6.7.8.9|" (1 ∷ 3 ∷ 4 ∷ 6 ∷ 7 ∷ 8 ∷ 9 ∷ []) (at 1 1 ∷ []))
    ∷ fa "5:0;5Me" (draws "OC(=O)CCCC(C)" (1 ∷ 3 ∷ 4 ∷ 5 ∷ 6 ∷ []) (at 1 1 ∷ []))
    ∷ fa "iso-17:0;17OH" (refused 32)
    ∷ []
