mod Groups
mod Members
mod States
