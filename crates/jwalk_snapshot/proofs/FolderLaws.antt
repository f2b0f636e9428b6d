-- The same for directories, for the call, and for all of a snapshot.
use Rattle.std.proofs.Common.{◌≡◌, ℕ, ◌+◌, ◌^◌, ◌<◌, Bool, true, false, cond, eqb, ltb, ◌&&◌, List, [], ◌∷◌, ◌++◌, length, Option, Some, None, refl, sym, ap, subst, ◌∙◌, append_assoc, arith}
use Rattle.std.specs.Prelude.{codes}
use Rattle.std.specs.List.{list_all, flat_map, AllByRecursion}
use Rattle.std.specs.Str.{bytes_eq}
use Rattle.std.proofs.lemmas.Bool.{eqb-true, eq-eqb, lt-ltb, ltb-true, and_parts, and_from}
use Rattle.std.proofs.lemmas.List.{append-nil, nil_from_length}
use Rattle.std.proofs.lemmas.Option.{cond_some, same_Some}
use Rattle.std.proofs.lemmas.Slice.Eq.{bytes_eq-Decides}
use Rattle.jwalk_snapshot.specs.declared.block.Listing.{Listing}
use Rattle.jwalk_snapshot.specs.Text.{Entry, Folder, Call, Content, number_text, ended, entry_text, listing_text, folder_text, call_text, folders_text, body_text, mark, count_of, is_text, is_entry, is_folder, is_ascending, is_call, is_snapshot, EntryFits, FolderFits, ContentFits}
use Rattle.jwalk_snapshot.specs.Reading.{◌>>=◌, field_at, number_at, entry_at, listing_at, list_at, folder_at, call_at, folders_at, after_mark, content, whole, body_at}
use Rattle.jwalk_snapshot.proofs.NumberFacts.{bind_some, field_takes, field_again}
use Rattle.jwalk_snapshot.proofs.FieldLaws.{Reads, joined, text_reads, number_reads, entry_reads, listing_reads, list_parts, list_back}

-- four texts, one behind another
regrouped : (a b c d rest : List ℕ) → (((a ++ b) ++ c) ++ d) ++ rest ≡ a ++ (b ++ (c ++ (d ++ rest)))
regrouped a b c d rest = append_assoc ((a ++ b) ++ c) d rest ∙ append_assoc (a ++ b) c (d ++ rest) ∙ append_assoc a b (c ++ (d ++ rest))

joined4 : (bytes a p b q c r d s : List ℕ) → bytes ≡ a ++ p → p ≡ b ++ q → q ≡ c ++ r → r ≡ d ++ s → bytes ≡ (((a ++ b) ++ c) ++ d) ++ s
joined4 bytes a p b q c r d s e f g h = joined bytes ((a ++ b) ++ c) r d s (joined bytes (a ++ b) q c r (joined bytes a p b q e f) g) h

-- ---- a directory

abbrev folder : Listing → List ℕ → List Entry → Folder
folder l p ns = record { path = p; listing = l; names = ns }

folder_parts : (bytes : List ℕ) (x : Folder) (rest : List ℕ) → folder_at bytes ≡ Some (x, rest) → (bytes ≡ folder_text x ++ rest) × FolderFits x
unfolding folder_at
folder_parts bytes x rest e =
    let a = bind_some (listing_at bytes) (λ l. number_at l.1 >>= λ n. field_at 0 n.1 >>= λ p. list_at entry_at n.0 p.1 >>= λ es. Some (folder l.0 p.0 es.0, es.1)) (x, rest) e in
    let b = bind_some (number_at a.0.1) (λ n. field_at 0 n.1 >>= λ p. list_at entry_at n.0 p.1 >>= λ es. Some (folder a.0.0 p.0 es.0, es.1)) (x, rest) a.2 in
    let c = bind_some (field_at 0 b.0.1) (λ p. list_at entry_at b.0.0 p.1 >>= λ es. Some (folder a.0.0 p.0 es.0, es.1)) (x, rest) b.2 in
    let d = bind_some (list_at entry_at b.0.0 c.0.1) (λ es. Some (folder a.0.0 c.0.0 es.0, es.1)) (x, rest) c.2 in
    let l = listing_reads.takes bytes a.0.0 a.0.1 a.1 in
    let n = number_reads.takes a.0.1 b.0.0 b.0.1 b.1 in
    let p = text_reads.takes b.0.1 c.0.0 c.0.1 c.1 in
    let es = list_parts entry_at entry_text is_entry EntryFits entry_reads b.0.0 c.0.1 d.0.0 d.0.1 d.1 in
    let counted : a.0.1 ≡ number_text (length d.0.0) ++ b.0.1 = n.0 ∙ ap (λ (k : ℕ). number_text k ++ b.0.1) (sym es.1) in
    let all = joined4 bytes (listing_text a.0.0) a.0.1 (number_text (length d.0.0)) b.0.1 (ended c.0.0) c.0.1 (flat_map entry_text d.0.0) d.0.1 l.0 counted p.0 es.0 in
    let below : length d.0.0 < 2 ^ 64 = subst (λ (k : ℕ). k < 2 ^ 64) (sym es.1) n.1 in
    subst (λ (f : Folder × List ℕ). (bytes ≡ folder_text f.0 ++ f.1) × FolderFits f.0) (same_Some (folder a.0.0 c.0.0 d.0.0, d.0.1) (x, rest) d.2) (all, record { listing = l.1; names = es.2; count = below })

folder_back : (x : Folder) (rest : List ℕ) → is_folder x ≡ true → FolderFits x → folder_at (folder_text x ++ rest) ≡ Some (x, rest)
unfolding folder_at
folder_back x rest h fits =
    let has = and_parts (is_text x.path) (list_all is_entry x.names && is_ascending x.names) h in
    let names = and_parts (list_all is_entry x.names) (is_ascending x.names) has.1 in
    let n = number_text (length x.names) in
    let es = flat_map entry_text x.names in
    ap folder_at (regrouped (listing_text x.listing) n (ended x.path) es rest)
    ∙ rw (listing_reads.again x.listing (n ++ (ended x.path ++ (es ++ rest))) refl fits.listing, number_reads.again (length x.names) (ended x.path ++ (es ++ rest)) refl fits.count, text_reads.again x.path (es ++ rest) has.0 tt, list_back entry_at entry_text is_entry EntryFits entry_reads x.names rest names.0 fits.names) refl

folder_reads : Reads folder_at folder_text is_folder FolderFits
folder_reads = record { takes = folder_parts; again = folder_back }

-- ---- the call

abbrev Nothing : List ℕ → Type 0
Nothing x = Unit {0}

abbrev call : List ℕ → List ℕ → List (List ℕ) → Call
call r a ws = record { root = r; absolute = a; words = ws }

call_parts : (bytes : List ℕ) (x : Call) (rest : List ℕ) → call_at bytes ≡ Some (x, rest) → (bytes ≡ call_text x ++ rest) × (length x.words < 2 ^ 64)
unfolding call_at
call_parts bytes x rest e =
    let a = bind_some (number_at bytes) (λ n. field_at 0 n.1 >>= λ r. field_at 0 r.1 >>= λ s. list_at (field_at 0) n.0 s.1 >>= λ ws. Some (call r.0 s.0 ws.0, ws.1)) (x, rest) e in
    let b = bind_some (field_at 0 a.0.1) (λ r. field_at 0 r.1 >>= λ s. list_at (field_at 0) a.0.0 s.1 >>= λ ws. Some (call r.0 s.0 ws.0, ws.1)) (x, rest) a.2 in
    let c = bind_some (field_at 0 b.0.1) (λ s. list_at (field_at 0) a.0.0 s.1 >>= λ ws. Some (call b.0.0 s.0 ws.0, ws.1)) (x, rest) b.2 in
    let d = bind_some (list_at (field_at 0) a.0.0 c.0.1) (λ ws. Some (call b.0.0 c.0.0 ws.0, ws.1)) (x, rest) c.2 in
    let n = number_reads.takes bytes a.0.0 a.0.1 a.1 in
    let r = text_reads.takes a.0.1 b.0.0 b.0.1 b.1 in
    let s = text_reads.takes b.0.1 c.0.0 c.0.1 c.1 in
    let ws = list_parts (field_at 0) ended is_text Nothing text_reads a.0.0 c.0.1 d.0.0 d.0.1 d.1 in
    let counted : bytes ≡ number_text (length d.0.0) ++ a.0.1 = n.0 ∙ ap (λ (k : ℕ). number_text k ++ a.0.1) (sym ws.1) in
    let all = joined4 bytes (number_text (length d.0.0)) a.0.1 (ended b.0.0) b.0.1 (ended c.0.0) c.0.1 (flat_map ended d.0.0) d.0.1 counted r.0 s.0 ws.0 in
    let below : length d.0.0 < 2 ^ 64 = subst (λ (k : ℕ). k < 2 ^ 64) (sym ws.1) n.1 in
    subst (λ (f : Call × List ℕ). (bytes ≡ call_text f.0 ++ f.1) × (length f.0.words < 2 ^ 64)) (same_Some (call b.0.0 c.0.0 d.0.0, d.0.1) (x, rest) d.2) (all, below)

nothing_more : (xs : List (List ℕ)) → AllByRecursion Nothing xs
nothing_more [] = tt
nothing_more (x ∷ xs) = (tt, nothing_more xs)

call_back : (x : Call) (rest : List ℕ) → is_call x ≡ true → length x.words < 2 ^ 64 → call_at (call_text x ++ rest) ≡ Some (x, rest)
unfolding call_at
call_back x rest h below =
    let has = and_parts (is_text x.root) (is_text x.absolute && list_all is_text x.words) h in
    let others = and_parts (is_text x.absolute) (list_all is_text x.words) has.1 in
    let ws = flat_map ended x.words in
    ap call_at (regrouped (number_text (length x.words)) (ended x.root) (ended x.absolute) ws rest)
    ∙ rw (number_reads.again (length x.words) (ended x.root ++ (ended x.absolute ++ (ws ++ rest))) refl below, text_reads.again x.root (ended x.absolute ++ (ws ++ rest)) has.0 tt, text_reads.again x.absolute (ws ++ rest) others.0 tt, list_back (field_at 0) ended is_text Nothing text_reads x.words rest others.1 (nothing_more x.words)) refl

-- ---- all directories

folders_parts : (bytes : List ℕ) (x : List Folder) (rest : List ℕ) → folders_at bytes ≡ Some (x, rest) → (bytes ≡ folders_text x ++ rest) × AllByRecursion FolderFits x × (length x < 2 ^ 64)
unfolding folders_at
folders_parts bytes x rest e =
    let a = bind_some (number_at bytes) (λ n. list_at folder_at n.0 n.1 >>= λ fs. number_at fs.1 >>= λ t. cond (eqb t.0 (count_of fs.0)) (Some (fs.0, t.1)) None) (x, rest) e in
    let b = bind_some (list_at folder_at a.0.0 a.0.1) (λ fs. number_at fs.1 >>= λ t. cond (eqb t.0 (count_of fs.0)) (Some (fs.0, t.1)) None) (x, rest) a.2 in
    let c = bind_some (number_at b.0.1) (λ t. cond (eqb t.0 (count_of b.0.0)) (Some (b.0.0, t.1)) None) (x, rest) b.2 in
    let g = cond_some (eqb c.0.0 (count_of b.0.0)) (b.0.0, c.0.1) (x, rest) c.2 in
    let n = number_reads.takes bytes a.0.0 a.0.1 a.1 in
    let fs = list_parts folder_at folder_text is_folder FolderFits folder_reads a.0.0 a.0.1 b.0.0 b.0.1 b.1 in
    let t = number_reads.takes b.0.1 c.0.0 c.0.1 c.1 in
    let counted : bytes ≡ number_text (length b.0.0) ++ a.0.1 = n.0 ∙ ap (λ (k : ℕ). number_text k ++ a.0.1) (sym fs.1) in
    let total : b.0.1 ≡ number_text (count_of b.0.0) ++ c.0.1 = t.0 ∙ ap (λ (k : ℕ). number_text k ++ c.0.1) (eqb-true c.0.0 (count_of b.0.0) g.0) in
    let two = joined bytes (number_text (length b.0.0)) a.0.1 (flat_map folder_text b.0.0) b.0.1 counted fs.0 in
    let all = joined bytes (number_text (length b.0.0) ++ flat_map folder_text b.0.0) b.0.1 (number_text (count_of b.0.0)) c.0.1 two total in
    let below : length b.0.0 < 2 ^ 64 = subst (λ (k : ℕ). k < 2 ^ 64) (sym fs.1) n.1 in
    subst (λ (f : List Folder × List ℕ). (bytes ≡ folders_text f.0 ++ f.1) × AllByRecursion FolderFits f.0 × (length f.0 < 2 ^ 64)) g.1 (all, fs.2, below)

folders_back : (x : List Folder) (rest : List ℕ) → list_all is_folder x ≡ true → count_of x < 2 ^ 64 → AllByRecursion FolderFits x → length x < 2 ^ 64 → folders_at (folders_text x ++ rest) ≡ Some (x, rest)
unfolding folders_at
folders_back x rest has total fits below =
    let n = number_text (length x) in
    let fs = flat_map folder_text x in
    let t = number_text (count_of x) in
    ap folders_at (append_assoc (n ++ fs) t rest ∙ append_assoc n fs (t ++ rest))
    ∙ rw (number_reads.again (length x) (fs ++ (t ++ rest)) refl below, list_back folder_at folder_text is_folder FolderFits folder_reads x (t ++ rest) has fits, number_reads.again (count_of x) rest refl total, eq-eqb (count_of x) (count_of x) refl) refl

-- ---- the mark

mark_parts : (bytes rest : List ℕ) → after_mark bytes ≡ Some rest → bytes ≡ mark ++ rest
unfolding after_mark
mark_parts bytes rest e =
    let name = codes "jwalk-snapshot" in
    let a = bind_some (field_at 32 bytes) (λ n. field_at 32 n.1 >>= λ v. cond (bytes_eq n.0 (codes "jwalk-snapshot") && bytes_eq v.0 (codes "1")) (Some v.1) None) rest e in
    let b = bind_some (field_at 32 a.0.1) (λ v. cond (bytes_eq a.0.0 (codes "jwalk-snapshot") && bytes_eq v.0 (codes "1")) (Some v.1) None) rest a.2 in
    let g = cond_some (bytes_eq a.0.0 (codes "jwalk-snapshot") && bytes_eq b.0.0 (codes "1")) b.0.1 rest b.2 in
    let p = and_parts (bytes_eq a.0.0 (codes "jwalk-snapshot")) (bytes_eq b.0.0 (codes "1")) g.0 in
    let n : a.0.0 ≡ codes "jwalk-snapshot" = (bytes_eq-Decides a.0.0 (codes "jwalk-snapshot")).0 p.0 in
    let v : b.0.0 ≡ codes "1" = (bytes_eq-Decides b.0.0 (codes "1")).0 p.1 in
    (field_takes 32 bytes a.0.0 a.0.1 a.1).0
    ∙ ap (λ (t : List ℕ). a.0.0 ++ 32 ∷ t) ((field_takes 32 a.0.1 b.0.0 b.0.1 b.1).0)
    ∙ ap (λ (t : List ℕ). t ++ 32 ∷ (b.0.0 ++ 32 ∷ b.0.1)) n
    ∙ ap (λ (t : List ℕ). codes "jwalk-snapshot" ++ 32 ∷ (t ++ 32 ∷ b.0.1)) v
    ∙ ap (λ (t : List ℕ). codes "jwalk-snapshot" ++ 32 ∷ (codes "1" ++ 32 ∷ t)) g.1

mark_back : (rest : List ℕ) → after_mark (mark ++ rest) ≡ Some rest
unfolding after_mark
mark_back rest =
    rw (field_again 32 (codes "jwalk-snapshot") (codes "1" ++ 32 ∷ rest) refl, field_again 32 (codes "1") rest refl) refl

-- ---- all of a snapshot

pub body_parts : (bytes : List ℕ) (c : Content) → body_at bytes ≡ Some c → (bytes ≡ body_text c) × (is_snapshot c ≡ true) × ContentFits c
unfolding body_at
body_parts bytes c e =
    let a = bind_some (after_mark bytes) (λ t. call_at t >>= λ k. folders_at k.1 >>= λ fs. whole k.0 fs) c e in
    let b = bind_some (call_at a.0) (λ k. folders_at k.1 >>= λ fs. whole k.0 fs) c a.2 in
    let d = bind_some (folders_at b.0.1) (λ fs. whole b.0.0 fs) c b.2 in
    let g = cond_some (eqb (length d.0.1) 0 && is_snapshot (content b.0.0 d.0.0)) (content b.0.0 d.0.0) c d.2 in
    let p = and_parts (eqb (length d.0.1) 0) (is_snapshot (content b.0.0 d.0.0)) g.0 in
    let m = mark_parts bytes a.0 a.1 in
    let k = call_parts a.0 b.0.0 b.0.1 b.1 in
    let fs = folders_parts b.0.1 d.0.0 d.0.1 d.1 in
    let nothing : d.0.1 ≡ [] = nil_from_length d.0.1 (eqb-true (length d.0.1) 0 p.0) in
    let last : b.0.1 ≡ folders_text d.0.0 = fs.0 ∙ ap (λ (t : List ℕ). folders_text d.0.0 ++ t) nothing ∙ append-nil (folders_text d.0.0) in
    let all : bytes ≡ body_text (content b.0.0 d.0.0) =
    m ∙ ap (λ (t : List ℕ). mark ++ t) k.0 ∙ sym (append_assoc mark (call_text b.0.0) b.0.1) ∙ ap (λ (t : List ℕ). (mark ++ call_text b.0.0) ++ t) last in
    subst (λ (f : Content). (bytes ≡ body_text f) × (is_snapshot f ≡ true) × ContentFits f) g.1 (all, p.1, record { words = k.1; folders = fs.1; count = fs.2 })

pub body_back : (c : Content) → is_snapshot c ≡ true → ContentFits c → body_at (body_text c) ≡ Some c
unfolding body_at
body_back c h fits =
    let has = and_parts (is_call c.call) (list_all is_folder c.folders && ltb (count_of c.folders) (2 ^ 64)) h in
    let others = and_parts (list_all is_folder c.folders) (ltb (count_of c.folders) (2 ^ 64)) has.1 in
    let last : folders_at (folders_text c.folders) ≡ Some (c.folders, []) =
    ap folders_at (sym (append-nil (folders_text c.folders))) ∙ folders_back c.folders [] others.0 (ltb-true (count_of c.folders) (2 ^ 64) others.1) fits.folders fits.count in
    ap body_at (append_assoc mark (call_text c.call) (folders_text c.folders))
    ∙ rw (mark_back (call_text c.call ++ folders_text c.folders), call_back c.call (folders_text c.folders) has.0 fits.words, last, h) refl
