pub mod TournamentLemmas
pub mod TimesLemmas
pub mod ChangeLemmas
pub mod ApartLemmas
