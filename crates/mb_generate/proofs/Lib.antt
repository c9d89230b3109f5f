mod Drawings
mod Planning
mod Scripting
mod Spellings
mod Telling
