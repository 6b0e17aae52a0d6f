-- A body that is wrapped is read back.
use Rattle.std.proofs.Common.{◌≡◌, ◌≢◌, ℕ, ◌<◌, ◌≤◌, max, List, codes, Option, Some, None, Result, Ok, Err, Ordering, Less, Equal, Greater, nat_cmp, refl, sym, ap, ◌∙◌, arith, cond, Bool, true, false}
use Rattle.std.specs.Option.{ok_or}
use Rattle.std.specs.Str.{IsUtf8, is_utf8}
use Rattle.std.specs.Cmp.Lexicographic.{slice_cmp}
use Rattle.std.specs.Ordering.{match_ordering}
use Rattle.std.proofs.lemmas.Str.{is_utf8-from_IsUtf8}
use Rattle.json.specs.Lex.{tokens}
use Rattle.json.specs.Print.{print}
use Rattle.serde_json.specs.Data.{Data, null, boolean, number, string, array, object, Members, member, no_members, depth, members_depth}
use Rattle.serde_json.specs.Find.{get, get_member}
use Rattle.serde_json.specs.Read.{read, max_depth}
use Rattle.serde_json.proofs.Nesting.{depth-read}
use Rattle.ing_refusals.specs.Results.{◌>>=◌}
use Rattle.ing_commands.specs.declared.fault.LineFault.{LineFault}
use Rattle.ing_commands.specs.declared.fault.LineFault.TheVariants.{BadCommand, NoMemory}
use Rattle.ing_commands.specs.Commands.{Command, Push, pushed, data_of, said_by, command_of}
use Rattle.ing_commands.specs.PushCommands.{PushCommand, raw_push}
use Rattle.ctl_feed.specs.Pushes.{Says}
use Rattle.ctl_feed.specs.declared.wrap.WrapFault.TheVariants.{Refused}
use Rattle.ctl_feed.specs.Wraps.{raw_wrapped, wrapped, command_data}
use Rattle.ctl_feed.proofs.OneLine.{printed_clean}

-- ---- what the line says

raw_same : (tenant : List ℕ) (now : ℕ) (body streams : Data) → get (codes "streams") body ≡ Some streams → raw_push (command_data tenant now streams) ≡ raw_wrapped tenant now body
unfolding raw_push
raw_same tenant now body streams found = rw found

-- the value of the line says what the body is to say
pub said_same : (tenant : List ℕ) (now : ℕ) (text : List ℕ) (body streams : Data) → data_of text ≡ Ok body → get (codes "streams") body ≡ Some streams
    → said_by (command_data tenant now streams) ≡ (wrapped tenant now text >>= pushed)
unfolding said_by
said_same tenant now text body streams is found = rw (is, raw_same tenant now body streams found)

push_behind : (r : Result PushCommand LineFault) (command : Command) → (r >>= pushed) ≡ Ok command → (push : PushCommand) × (r ≡ Ok push) × (command ≡ Push push)
push_behind (Ok push) command h = (push, refl, cc)
push_behind (Err fault) command h = absurd cc

pub fault_behind : (r : Result PushCommand LineFault) (fault : LineFault) → (r >>= pushed) ≡ Err fault → r ≡ Err fault
fault_behind (Ok push) fault h = absurd cc
fault_behind (Err other) fault h = cc

-- ---- how deep it nests

found_by : (o : Ordering) (rest : Option Data) (d e : Data) (n : ℕ) → (rest ≡ Some e → depth e ≤ n) → match_ordering o rest (Some d) rest ≡ Some e → depth e ≤ max (depth d) n
found_by Less rest d e n h is = omega (arith, h is)
found_by Equal rest d e n h is = let same : d ≡ e = cc in omega (arith, ap depth same)
found_by Greater rest d e n h is = omega (arith, h is)

member_depth : (name : List ℕ) (ms : Members) (e : Data) → get_member name ms ≡ Some e → depth e ≤ members_depth ms
member_depth name no_members e is = absurd cc
member_depth name (member l d ms) e is = found_by (slice_cmp nat_cmp name l) (get_member name ms) d e (members_depth ms) (member_depth name ms e) is

below : (name : List ℕ) (d e : Data) → get name d ≡ Some e → depth e < depth d
below name null e is = absurd cc
below name (boolean b) e is = absurd cc
below name (number n) e is = absurd cc
below name (string s) e is = absurd cc
below name (array ds) e is = absurd cc
below name (object ms) e is = omega (arith, member_depth name ms e is)

read_by : (b : Bool) (o : Option Data) (d : Data) → ◌≡◌ {A = Result Data LineFault} (cond b (ok_or o BadCommand) (Err BadCommand)) (Ok d) → o ≡ Some d
read_by true (Some e) d h = cc
read_by true None d h = absurd cc
read_by false o d h = absurd cc

pub command_depth : (tenant : List ℕ) (now : ℕ) (text : List ℕ) (body streams : Data) → data_of text ≡ Ok body → get (codes "streams") body ≡ Some streams
    → depth (command_data tenant now streams) ≤ max_depth
command_depth tenant now text body streams is found =
    omega (arith, below (codes "streams") body streams found, depth-read text body (read_by (is_utf8 text) (read text) body is))

-- ---- the line

-- what is written of the value is the line
pub line_says : (tenant : List ℕ) (now : ℕ) (text : List ℕ) (body streams d : Data) (command : Command) (line : List ℕ)
    → data_of text ≡ Ok body → get (codes "streams") body ≡ Some streams → d ≡ command_data tenant now streams → said_by d ≡ Ok command
    → line ≡ print (tokens line) → IsUtf8 line → (depth d ≤ max_depth → read line ≡ Some d)
    → (push : PushCommand) × (wrapped tenant now text ≡ Ok push) × Says line push
line_says tenant now text body streams d command line is found value says compact utf8 back =
    let shallow : depth d ≤ max_depth = rw value (command_depth tenant now text body streams is found) in
    let behind = push_behind (wrapped tenant now text) command (sym (said_same tenant now text body streams is found) ∙ ap said_by (sym value) ∙ says) in
    let read_so : command_of line ≡ Ok (Push behind.0) = rw (is_utf8-from_IsUtf8 line utf8, back shallow) (says ∙ ap Ok behind.2) in
    (behind.0, behind.1, record { read = read_so; one_line = printed_clean line compact })

-- the reader's fault is that of the body
pub refused_so : (tenant : List ℕ) (now : ℕ) (text : List ℕ) (body streams d : Data) (part : LineFault)
    → data_of text ≡ Ok body → get (codes "streams") body ≡ Some streams → d ≡ command_data tenant now streams → (part ≢ NoMemory → said_by d ≡ Err part)
    → (fault : LineFault) → Refused part ≡ Refused fault → fault ≢ NoMemory → wrapped tenant now text ≡ Err fault
refused_so tenant now text body streams d part is found value says fault same other =
    let equal : part ≡ fault = cc in
    fault_behind (wrapped tenant now text) fault (sym (said_same tenant now text body streams is found) ∙ ap said_by (sym value) ∙ says (λ none. other (sym equal ∙ none)) ∙ ap Err equal)
